use Rattle.std.proofs.Common.{◌≡◌, ◌++◌}
use Rattle.svcb_spec.specs.Params.{pairs_wire}
use Rattle.svcb_pairs.specs.Holding.{pairs_of}
use Rattle.svcb_pairs.proofs.values.compose.Given as goal

abbrev pub invariant-loop-key : goal.invariant-loop-key
invariant-loop-key l =
    l.octets.items ++ pairs_wire (pairs_of l.key-iterator) ≡ pairs_wire (pairs_of l.values.entries)
