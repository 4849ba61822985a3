use Rattle.std.proofs.Common.{arith}
use Rattle.wire_base.proofs.Walk.{walks_over_label}
use Rattle.wire_base.proofs.name_parts.span_at.Goals as goal

pub loop-next-preserved-in-Label : goal.loop-next-preserved-in-Label
loop-next-preserved-in-Label c =
    let part = rw c.in-Label.is at c.in_ok-part_at.ensures in
    walks_over_label _ _ _ _ _ _ _ c.loop-next.invariant c.in-Label.len _ _ (omega arith)
    (omega arith) (omega arith) (omega arith) part.name part.pointed
