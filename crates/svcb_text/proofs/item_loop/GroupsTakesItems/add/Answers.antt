use Rattle.std.proofs.Common.{◌≡◌, ◌∙◌, false, true, ℕ, List, Ok, sym, ap}
use Rattle.text_spec.specs.declared.errors.ScanError.TheVariants.{BadNumber}
use Rattle.svcb_text.proofs.AscendingLemmas.{has, set_took, set_had, has-both}
use Rattle.svcb_text.proofs.ListLemmas.{spelled, read_group-there, read_group-new}
use Rattle.svcb_text.proofs.item_loop.GroupsTakesItems.add.Goals as goal

pub returns-then-not-branch : goal.returns-then-not-branch
returns-then-not-branch c =
    let n = c.in_ok-number.number in
    let there : has c.args.self.known.keys n ≡ true =
    set_had c.args.self.known.keys n c.in_ok-insert.field-0 c.in_ok-insert.ensures.added
    c.if-not-branch.true in
    read_group-there c.args.self.numbers.items c.args.text.now n
    (spelled BadNumber c.from_text.result _ n c.from_text.ensures c.in_ok-number.ensures.value)
    (sym (c.args.self.same n) ∙ there)

pub returns : goal.returns
returns c =
    let n = c.in_ok-number.number in
    let new : has c.args.self.known.keys n ≡ false =
    set_took c.args.self.known.keys n c.in_ok-insert.field-0 c.in_ok-insert.ensures.added
    c.if-not-branch.false in
    read_group-new c.args.self.numbers.items c.args.text.now n
    (spelled BadNumber c.from_text.result _ n c.from_text.ensures c.in_ok-number.ensures.value)
    (sym (c.args.self.same n) ∙ new)
    ∙ ap (λ (numbers : List ℕ). Ok numbers) (sym c.in_ok-push.ensures.items)

pub invariant_of-result : goal.invariant_of-result
invariant_of-result c =
    let n = c.in_ok-number.number in
    let new : has c.args.self.known.keys n ≡ false =
    set_took c.args.self.known.keys n c.in_ok-insert.field-0 c.in_ok-insert.ensures.added
    c.if-not-branch.false in
    record {
      same = λ m.
          ap (λ (keys : List ℕ). has keys m) c.in_ok-insert.ensures.keys
          ∙ has-both c.args.self.known.keys c.args.self.numbers.items n c.args.self.same new m
          ∙ ap (λ (numbers : List ℕ). has numbers m) (sym c.in_ok-push.ensures.items);
    }
