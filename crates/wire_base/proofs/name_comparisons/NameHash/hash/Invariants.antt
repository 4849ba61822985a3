use Rattle.std.proofs.Common.{◌≡◌, map, drop}
use Rattle.std.specs.Char.{to_ascii_lowercase}
use Rattle.std.specs.List.{flat_map, fold}
use Rattle.std.specs.Hash as fed
use Rattle.name_spec.specs.OwnedNames.{lowered_wire}
use Rattle.wire_base.proofs.name_comparisons.NameHash.hash.Given as goal

abbrev pub invariant-loop-octet : goal.invariant-loop-octet
invariant-loop-octet g l =
    fold g.H.Hasher.write l.state
    (flat_map fed.u8 (map to_ascii_lowercase (drop l.octet-index l.octet-items)))
    ≡ fold g.H.Hasher.write l.fn.state (flat_map fed.u8 (lowered_wire l.fn.self))
