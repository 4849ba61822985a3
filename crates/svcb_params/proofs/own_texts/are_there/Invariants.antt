use Rattle.std.proofs.Common.{◌≡◌}
use Rattle.svcb_spec.specs.ReadingValues.{numbers}
use Rattle.svcb_params.proofs.HeldKeys.{are_there_above}
use Rattle.svcb_params.proofs.own_texts.are_there.Given as goal

abbrev pub invariant-loop-key : goal.invariant-loop-key
invariant-loop-key l =
    are_there_above 0 l.fn.pairs (numbers l.fn.keys)
    ≡ are_there_above l.least l.pairs (numbers l.key-iterator)
