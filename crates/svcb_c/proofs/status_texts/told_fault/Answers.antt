-- The status of a fault is 64 and its place.
use Rattle.std.proofs.Common.{◌≡◌, ◌∙◌, ◌-◌, false, refl, arith}
use Rattle.std.specs.Prelude.{nat_lt}
use Rattle.std.specs.List.{slice_get}
use Rattle.std.proofs.lemmas.Bool.Decides.{nat_tests}
use Rattle.svcb_c.proofs.FaultNumbers.{item_copied}
use Rattle.svcb_c.specs.Statuses.{text_faults, told_fault}
use Rattle.svcb_c.proofs.status_texts.told_fault.Goals as goal

pub returns : goal.returns
returns c =
    let enough : nat_lt c.args.status 64 ≡ false = grind (arith, nat_tests, c.if-status-lt-HW_S_END_OF_ENTRY.false) in
    let told : slice_get text_faults (c.args.status - 64) ≡ told_fault c.args.status = rw enough refl in
    c.copied.ensures ∙ item_copied text_faults (c.args.status - 64) c.get.result c.get.ensures.lookup
    ∙ told
