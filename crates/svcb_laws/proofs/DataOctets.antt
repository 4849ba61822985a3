-- What a record's labels and values are made of, where its octets are octets. Offered to the crates
-- above: `octets_parts`, `octets_joined`, `values_octets`, `map_octets` and `is_data`.
use Rattle.std.proofs.Common.{ℕ, List, [], ◌∷◌, ◌++◌, length, subst}
use Rattle.std.specs.List.{flat_map}
use Rattle.name_spec.specs.Names.{name_wire}
use Rattle.name_spec.specs.Octets.{be2}
use Rattle.name_spec.specs.AddressLaws.{AreOctets}
use Rattle.svcb_spec.specs.Params.{Pairs, IsMap, pairs_wire, wire}
use Rattle.svcb_spec.specs.Records.{Record, IsRecord}
use Rattle.svcb_spec.proofs.WireLaws.{wire-pairs}
use Rattle.text_spec.proofs.OctetParts.{labels_octets}
use Rattle.svcb_laws.specs.ParamTextLaws.{HaveOctets}
use Rattle.svcb_laws.specs.DataTextLaws.{IsRecordOfOctets}

-- octets in two parts
pub octets_parts : (front behind : List ℕ) → AreOctets (front ++ behind) → AreOctets front
    × AreOctets behind
octets_parts [] behind are = (tt, are)
octets_parts (c ∷ front) behind are =
    let parts = octets_parts front behind are.1 in
    ((are.0, parts.0), parts.1)

pub octets_joined : (front behind : List ℕ) → AreOctets front → AreOctets behind
    → AreOctets (front ++ behind)
octets_joined [] behind are more = more
octets_joined (c ∷ front) behind are more = (are.0, octets_joined front behind are.1 more)

pub values_octets : (pairs : Pairs) → AreOctets (pairs_wire pairs) → HaveOctets pairs
values_octets [] are = tt
values_octets (pair ∷ pairs) are =
    let parts = octets_parts ((be2 pair.0 ++ be2 (length pair.1)) ++ pair.1) (pairs_wire pairs) are
    in (
      (octets_parts (be2 pair.0 ++ be2 (length pair.1)) pair.1 parts.0).1,
      values_octets pairs
          parts.1,
    )

-- so the values of a map are made of octets where its octets are
pub map_octets : (pairs : Pairs) → IsMap pairs → AreOctets (wire pairs) → HaveOctets pairs
map_octets pairs is are = values_octets pairs (subst AreOctets (wire-pairs pairs is) are)

-- a record whose octets are octets
pub is_data : (found : Record) → IsRecord found → AreOctets (name_wire found.labels)
    → AreOctets (wire found.pairs) → IsRecordOfOctets found
is_data found is target parameters = record {
  is_record = is;
  labels = labels_octets found.labels target;
  values = map_octets found.pairs is.is_map parameters;
}
