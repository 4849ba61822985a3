use Rattle.std.proofs.Common.{◌≡◌, ◌<◌, Option, Some, List, ℕ, option_map, sym, subst}
use Rattle.svcb_spec.specs.ListTexts.{left_len}
use Rattle.svcb_text.proofs.ProtocolLemmas.{less_left}
use Rattle.svcb_text.proofs.value_iter.SvcParamValueScanIter.next_item.Goals as goal

pub returns-clause-ends : goal.returns-clause-ends
returns-clause-ends c =
    let left : Option (List ℕ) = option_map (λ text. text.now) c.in_ok-item.rest in
    let same : c.args.self.now ≡ Some c.in-Some.text.now = cc (c.self.view_is, c.in-Some.is) in
    λ _. subst (λ old. left_len left < left_len old) (sym same)
    (less_left c.in-Some.text.now _ c.in_ok-item.ensures)
