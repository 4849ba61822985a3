use Rattle.std.proofs.Common.{◌∙◌, List, ℕ, None, Some, Ok, sym, ap}
use Rattle.std.proofs.lemmas.Result.{err_from_is_err_and}
use Rattle.svcb_spec.specs.ListTexts.{read_item}
use Rattle.svcb_text.specs.Items.{seen_read}
use Rattle.svcb_text.proofs.AnswerLemmas.{refused_as}
use Rattle.svcb_text.proofs.ItemLemmas.{onto_octets, item_ends, item_ended, item_longer, item_refused}
use Rattle.svcb_text.proofs.item_texts.read_item.Goals as goal

pub returns-then-c-eq44 : goal.returns-then-c-eq44
returns-then-c-eq44 c =
    item_ended c.args.text.now c.loop-c.left.now c.loop-c.item.items c.loop-c.invariant
    c.in-Some.c.now c.in-Some.others.now c.in-Some.ensures.cases.0 c.if-c-eq44.true
    ∙ ap (λ (item : List ℕ). Ok (record { item = item; rest = Some c.in-Some.others.now }))
    (sym c.from_vec.ensures)

pub returns : goal.returns
returns c =
    item_ends c.args.text.now c.loop-c.left.now c.loop-c.item.items c.loop-c.invariant
    c.in_default.ensures.cases
    ∙ ap (λ (item : List ℕ). Ok (record { item = item; rest = None })) (sym c.from_vec-2.ensures)

pub loop-c-preserved : goal.loop-c-preserved
loop-c-preserved c =
    let longer = item_longer c.args.text.now c.loop-c.left.now c.loop-c.item.items
    c.loop-c.invariant c.in-Some.c.now c.in-Some.others.now c.in-Some.ensures.cases.0
    c.in_ok-octet.octet c.in_ok-octet.behind.now c.in_ok-octet.ensures.reads in
    longer ∙ ap (λ (item : List ℕ). onto_octets item (read_item c.in_ok-octet.behind.now))
    (sym c.in_ok-push.ensures.items)

pub returns-in_err-octet : goal.returns-in_err-octet
returns-in_err-octet c =
    let refused = item_refused c.args.text.now c.loop-c.left.now c.loop-c.item.items
    c.loop-c.invariant c.in-Some.c.now c.in-Some.others.now c.in-Some.ensures.cases.0
    c.in_err-octet.field-0.0 c.in_err-octet.ensures.refused.1 in
    let p = err_from_is_err_and c.from_residual.result c.from_residual.ensures.1 in
    rw (p.1, p.2)
    (refused_as seen_read c.in_err-octet.field-0.0 (read_item c.args.text.now) refused)
