use Rattle.std.proofs.Common.{◌≡◌}
use Rattle.std.specs.List.{list_all}
use Rattle.svcb_spec.specs.ReadingValues.{protocols}
use Rattle.svcb_spec.specs.PrintedParams.{has_some}
use Rattle.svcb_choose.proofs.usability.are_named.Given as goal

abbrev pub invariant-loop-name : goal.invariant-loop-name
invariant-loop-name l =
    list_all has_some (protocols l.fn.names) ≡ list_all has_some (protocols l.name-iterator)
