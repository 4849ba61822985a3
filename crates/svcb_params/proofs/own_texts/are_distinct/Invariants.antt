use Rattle.std.proofs.Common.{◌≡◌}
use Rattle.svcb_spec.specs.ReadingValues.{numbers}
use Rattle.svcb_spec.specs.PrintedParams.{are_distinct}
use Rattle.svcb_params.proofs.Distinct.{distinct_from}
use Rattle.svcb_params.proofs.own_texts.are_distinct.Given as goal

abbrev pub invariant-loop-group : goal.invariant-loop-group
invariant-loop-group l =
    are_distinct (numbers l.fn.groups) ≡ distinct_from l.met.words (numbers l.group-iterator)
