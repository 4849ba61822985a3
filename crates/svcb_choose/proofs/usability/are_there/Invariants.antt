use Rattle.std.proofs.Common.{◌≡◌}
use Rattle.svcb_spec.specs.Params.{IsMap}
use Rattle.svcb_spec.specs.ReadingValues.{numbers}
use Rattle.svcb_choose.proofs.HeldKeys.{are_there_above}
use Rattle.svcb_choose.proofs.usability.are_there.Given as goal

abbrev pub invariant-loop-key : goal.invariant-loop-key
invariant-loop-key l = record {
  same : are_there_above 0 l.fn.pairs (numbers l.fn.keys)
      ≡ are_there_above l.least l.pairs (numbers l.key-iterator);
  is_map : IsMap l.pairs;
}
