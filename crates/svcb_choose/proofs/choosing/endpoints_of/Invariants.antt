use Rattle.std.proofs.Common.{◌≡◌, ◌++◌, drop}
use Rattle.svcb_choose.specs.Choosing.{endpoints_from}
use Rattle.svcb_choose.proofs.choosing.endpoints_of.Given as goal

abbrev pub invariant-loop-index : goal.invariant-loop-index
invariant-loop-index g l =
    endpoints_from l.owner l.known.keys l.defaults 0 l.records
    ≡ l.endpoints.items
    ++ endpoints_from l.owner l.known.keys l.defaults l.index (drop l.index l.records)
