use Rattle.std.proofs.Common.{drop}
use Rattle.svcb_choose.proofs.KeySets.{HaveAll}
use Rattle.svcb_choose.proofs.usability.key_set.Given as goal

abbrev pub invariant-loop-key : goal.invariant-loop-key
invariant-loop-key l = HaveAll l.keys l.known.keys (drop l.key-index l.keys)
