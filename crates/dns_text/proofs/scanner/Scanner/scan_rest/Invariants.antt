use Rattle.std.proofs.Common.{◌≡◌, ◌-◌, length}
use Rattle.dns_text.proofs.Rests.{AreJoined}
use Rattle.dns_text.proofs.scanner.Scanner.scan_rest.Given as goal

abbrev pub invariant-loop-alloc : goal.invariant-loop-alloc
invariant-loop-alloc g l =
    let scan = g.Self.Scanner.scan in
    record {
      began : l.place ≡ (scan l.fn.self).taken;
      joined : AreJoined (scan l.fn.self) (scan l.self) l.octets.items;
    }

abbrev pub decreases-loop-alloc : goal.decreases-loop-alloc
decreases-loop-alloc g l =
    length (g.Self.Scanner.scan l.self).tokens - (g.Self.Scanner.scan l.self).taken
