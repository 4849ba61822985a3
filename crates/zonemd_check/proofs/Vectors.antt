-- What is digested of zones that were worked out by hand. No proof cites this file.
use Rattle.std.proofs.Common.{◌≡◌, ℕ, true, false, None, List, [], ◌∷◌, ◌++◌, refl}
use Rattle.std.specs.Prelude.{codes}
use Rattle.zonemd_check.specs.ZoneRecordView.{ZoneRecordView}
use Rattle.zonemd_check.specs.Ordering.{records_ascend}
use Rattle.zonemd_check.specs.Digesting.{record_octets, zone_octets, zone_digest}

abbrev record_of : List (List ℕ) → ℕ → ℕ → List ℕ → ZoneRecordView
record_of owner rtype ttl octets = record {
  owner = owner;
  class = 1;
  ttl = ttl;
  record_data = record { rtype = rtype; octets = octets };
}

abbrev example : List (List ℕ)
example = codes "example" ∷ []

abbrev a_example : List (List ℕ)
a_example = codes "a" ∷ codes "example" ∷ []

abbrev b_example : List (List ℕ)
b_example = codes "b" ∷ codes "example" ∷ []

-- an address of `A.Example.`
abbrev address : ZoneRecordView
address = record_of (codes "A" ∷ codes "Example" ∷ []) 1 3600 (192 ∷ 0 ∷ 2 ∷ 1 ∷ [])

-- ---- octets

abbrev address_octets : List ℕ
address_octets =
    1 ∷ 0x61 ∷ 7 ∷ codes "example" ++ 0 ∷ 0 ∷ 1 ∷ 0 ∷ 1 ∷ 0 ∷ 0 ∷ 0x0e ∷ 0x10 ∷ 0 ∷ 4
    ∷ 192 ∷ 0 ∷ 2 ∷ 1 ∷ []

one_record : zone_octets example (address ∷ []) ≡ address_octets
unfolding zone_octets
one_record = refl

-- the second has its owner in lower case and another TTL
repeated : zone_octets example
    (address ∷ record_of a_example 1 60 (192 ∷ 0 ∷ 2 ∷ 1 ∷ []) ∷ []) ≡ address_octets
unfolding zone_octets
repeated = refl

-- the root's data of no octets, with the greatest TTL
greatest_ttl : record_octets (record_of [] 65535 4294967295 [])
    ≡ 0 ∷ 0xff ∷ 0xff ∷ 0 ∷ 1 ∷ 0xff ∷ 0xff ∷ 0xff ∷ 0xff ∷ 0 ∷ 0 ∷ []
greatest_ttl = refl

-- ---- left out

no_record : zone_octets example [] ≡ []
unfolding zone_octets
no_record = refl

apex_alone : zone_octets example
    (record_of (codes "EXAMPLE" ∷ []) 46 3600 (0 ∷ 0x3f ∷ 0 ∷ [])
    ∷ record_of example 63 3600 (0 ∷ []) ∷ []) ≡ []
unfolding zone_octets
apex_alone = refl

-- a ZONEMD record below the apex, and a signature over another type
below_the_apex : zone_octets example (record_of example 46 0 (0 ∷ 6 ∷ [])
    ∷ record_of a_example 63 0 [] ∷ [])
    ≡ 7 ∷ codes "example" ++ 0 ∷ 0 ∷ 46 ∷ 0 ∷ 1 ∷ 0 ∷ 0 ∷ 0 ∷ 0 ∷ 0 ∷ 2 ∷ 0 ∷ 6
    ∷ 1 ∷ 0x61 ∷ 7 ∷ codes "example" ++ 0 ∷ 0 ∷ 63 ∷ 0 ∷ 1 ∷ 0 ∷ 0 ∷ 0 ∷ 0 ∷ 0 ∷ 0 ∷ []
unfolding zone_octets
below_the_apex = refl

-- ---- algorithms and order

other_algorithm : (apex : List (List ℕ)) (records : List ZoneRecordView)
    → zone_digest apex records 240 ≡ None
unfolding zone_digest
other_algorithm apex records = refl

owners_descend : records_ascend (record_of b_example 1 0 (0 ∷ [])
    ∷ record_of a_example 1 0 (0 ∷ []) ∷ []) ≡ false
owners_descend = refl

types_descend : records_ascend (record_of a_example 28 0 (0 ∷ [])
    ∷ record_of a_example 1 0 (0 ∷ []) ∷ []) ≡ false
types_descend = refl

data_descends : records_ascend (record_of a_example 1 0 (1 ∷ [])
    ∷ record_of a_example 1 0 (0 ∷ []) ∷ []) ≡ false
data_descends = refl

-- of equal owners in other case
equals : records_ascend (address ∷ record_of a_example 1 0 (192 ∷ 0 ∷ 2 ∷ 1 ∷ [])
    ∷ record_of b_example 1 0 [] ∷ []) ≡ true
equals = refl
