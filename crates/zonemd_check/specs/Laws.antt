-- Laws of what is digested of a zone.
use Rattle.std.specs.Prelude.{◌≡◌, ℕ, true, List, ◌∷◌, ◌++◌, map}
use Rattle.name_spec.specs.OwnedNames.{in_lower_case}
use Rattle.zonemd_check.specs.ZoneRecordView.{ZoneRecordView}
use Rattle.zonemd_check.specs.Digesting.{is_repeat, without_repeats, zone_octets}

-- a record with its owner in lower case
abbrev pub lowered : ZoneRecordView → ZoneRecordView
lowered found = record {
  owner = in_lower_case found.owner;
  class = found.class;
  ttl = found.ttl;
  record_data = found.record_data;
}

-- a zone and the zone without its repeats
abbrev pub RepeatsLeftOut : Type 0
RepeatsLeftOut = (apex : List (List ℕ)) (records : List ZoneRecordView)
    → zone_octets apex (without_repeats records) ≡ zone_octets apex records

-- a zone and the zone with a repeat put in, whatever the class and TTL of that
abbrev pub FirstStands : Type 0
FirstStands = (apex : List (List ℕ)) (front behind : List ZoneRecordView) (first found : ZoneRecordView)
    → is_repeat first found ≡ true
    → zone_octets apex (front ++ first ∷ found ∷ behind)
    ≡ zone_octets apex (front ++ first ∷ behind)

-- a zone and the zone with its owners in lower case
abbrev pub OwnersInAnyCase : Type 0
OwnersInAnyCase = (apex : List (List ℕ)) (records : List ZoneRecordView)
    → zone_octets apex (map lowered records) ≡ zone_octets apex records

-- a zone and the zone with two neighbours in each other's place, which are equal but for the case
-- of their owners
abbrev pub EqualsInAnyOrder : Type 0
EqualsInAnyOrder = (apex : List (List ℕ)) (front behind : List ZoneRecordView)
    (found other : ZoneRecordView) → lowered found ≡ lowered other
    → zone_octets apex (front ++ found ∷ other ∷ behind)
    ≡ zone_octets apex (front ++ other ∷ found ∷ behind)
