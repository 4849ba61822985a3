use Rattle.std.proofs.Common.{◌-◌, length}
use Rattle.svcb_pairs.proofs.AllTokens.{SoFar}
use Rattle.svcb_pairs.proofs.scan.scan_left.Given as goal

abbrev pub invariant-loop-alloc : goal.invariant-loop-alloc
invariant-loop-alloc g l = let scan = g.S.Scanner.scan
    in SoFar (scan l.fn.scanner) (scan l.scanner) l.values.entries

abbrev pub decreases-loop-alloc : goal.decreases-loop-alloc
decreases-loop-alloc g l = let scan = g.S.Scanner.scan l.scanner in length scan.tokens - scan.taken
