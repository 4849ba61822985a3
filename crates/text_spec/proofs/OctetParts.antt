-- Parts of octets are octets. Offered to the crates above: `AreOctets-split` and `labels_octets`.
use Rattle.std.proofs.Common.{ℕ, List, [], ◌∷◌, ◌++◌}
use Rattle.std.specs.List.{flat_map}
use Rattle.name_spec.specs.Names.{name_wire}
use Rattle.name_spec.specs.AddressLaws.{AreOctets}
use Rattle.text_spec.proofs.EncodingTexts.{AreOctets-append}

pub AreOctets-split : (front behind : List ℕ) → AreOctets (front ++ behind) → AreOctets front
    × AreOctets behind
AreOctets-split [] behind are = (tt, are)
AreOctets-split (octet ∷ front) behind are = let rest = AreOctets-split front behind are.1
    in ((are.0, rest.0), rest.1)

-- the octets of labels are some of those of their name
pub labels_octets : (labels : List (List ℕ)) → AreOctets (name_wire labels)
    → AreOctets (flat_map (λ label. label) labels)
labels_octets [] are = tt
labels_octets (label ∷ labels) are =
    let both = AreOctets-split label (name_wire labels) are.1 in
    AreOctets-append label (flat_map (λ label. label) labels) both.0 (labels_octets labels both.1)
