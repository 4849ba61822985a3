use Rattle.std.proofs.Common.{◌≡◌, ◌-◌, length}
use Rattle.name_spec.specs.Names.{is_pointed}
use Rattle.wire_base.proofs.owned_name.is_compressed.Given as goal

abbrev pub invariant-loop-pos : goal.invariant-loop-pos
invariant-loop-pos l =
    is_pointed l.octets (length l.octets) l.pos ≡ is_pointed l.octets (length l.octets) 0

abbrev pub decreases-loop-pos : goal.decreases-loop-pos
decreases-loop-pos l = length l.octets - l.pos
