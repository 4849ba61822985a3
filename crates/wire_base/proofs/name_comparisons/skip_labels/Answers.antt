use Rattle.wire_base.proofs.Labels.{next_dropped}
use Rattle.wire_base.proofs.name_comparisons.skip_labels.Goals as goal

pub loop-preserved : goal.loop-preserved
loop-preserved c =
    next_dropped c.args.labels.now _ _ c.loop.counter c.next.result c.loop.invariant
    c.next.ensures.steps
