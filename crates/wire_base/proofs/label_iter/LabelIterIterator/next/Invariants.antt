use Rattle.std.proofs.Common.{◌+◌, ◌-◌}
use Rattle.wire_base.proofs.Labels.{HasLabels}
use Rattle.wire_base.proofs.label_iter.LabelIterIterator.next.Given as goal

abbrev pub invariant-loop-len : goal.invariant-loop-len
invariant-loop-len l =
    HasLabels l.fn.self l.self-inside.message.now l.self-inside.end l.self-inside.pos
    l.self-inside.octets l.self-inside.pointers

abbrev pub decreases-loop-len : goal.decreases-loop-len
decreases-loop-len l = (254 - l.self-inside.octets) + (255 - l.self-inside.pointers)
