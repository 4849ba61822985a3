use Rattle.std.proofs.Common.{◌≡◌, ◌∙◌, false, true, ℕ, List, Ok, sym, ap, subst}
use Rattle.text_spec.specs.declared.errors.ScanError.TheVariants.{UnknownKey}
use Rattle.svcb_spec.specs.ValueTexts.{insert_ascending}
use Rattle.svcb_text.proofs.AscendingLemmas.{has, set_took, set_had, insert_key-new}
use Rattle.svcb_text.proofs.ListLemmas.{spelled, add_key-there, add_key-new}
use Rattle.svcb_text.proofs.item_loop.BTreeSetU16TakesItems.add.Goals as goal

pub returns-then-not-branch : goal.returns-then-not-branch
returns-then-not-branch c =
    let keys = c.args.self.keys in
    let there : has keys c.from.result ≡ true =
    set_had keys c.from.result c.in_ok-insert.field-0 c.in_ok-insert.ensures.added
    c.if-not-branch.true in
    add_key-there keys c.args.text.now c.in_ok-key.key
    (spelled UnknownKey c.from_bytes.result _ c.in_ok-key.key c.from_bytes.ensures
    c.in_ok-key.ensures.value)
    (sym c.if-eq.ensures) (subst (λ (k : ℕ). has keys k ≡ true) c.from.ensures.0 there)

pub returns : goal.returns
returns c =
    let keys = c.args.self.keys in
    let new : has keys c.from.result ≡ false =
    set_took keys c.from.result c.in_ok-insert.field-0 c.in_ok-insert.ensures.added
    c.if-not-branch.false in
    add_key-new keys c.args.text.now c.in_ok-key.key
    (spelled UnknownKey c.from_bytes.result _ c.in_ok-key.key c.from_bytes.ensures
    c.in_ok-key.ensures.value)
    (sym c.if-eq.ensures) (subst (λ (k : ℕ). has keys k ≡ false) c.from.ensures.0 new)
    ∙ ap (λ (k : ℕ). Ok (insert_ascending k keys)) (sym c.from.ensures.0)
    ∙ ap (λ (ks : List ℕ). Ok ks)
    (sym (c.in_ok-insert.ensures.keys ∙ insert_key-new keys c.from.result new))
