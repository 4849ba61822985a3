use Rattle.std.proofs.Common.{◌≡◌, drop}
use Rattle.svcb_choose.specs.Choosing.{priorities_from}
use Rattle.svcb_choose.proofs.choosing.priorities_ascend.Given as goal

abbrev pub invariant-loop-found : goal.invariant-loop-found
invariant-loop-found g l =
    priorities_from 0 l.records ≡ priorities_from l.last (drop l.found-index l.records)
