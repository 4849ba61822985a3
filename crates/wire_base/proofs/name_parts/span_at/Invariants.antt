use Rattle.std.proofs.Common.{◌+◌, ◌-◌}
use Rattle.wire_base.proofs.Walk.{WalksTo}
use Rattle.wire_base.proofs.name_parts.span_at.Given as goal

abbrev pub invariant-loop-next : goal.invariant-loop-next
invariant-loop-next l = WalksTo l.message l.end l.start l.pos l.octets l.pointers l.next

abbrev pub decreases-loop-next : goal.decreases-loop-next
decreases-loop-next l = (254 - l.octets) + (255 - l.pointers)
