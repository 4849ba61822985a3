-- What is digested of a zone (RFC 8976, section 3.3.1).
use Rattle.std.specs.Prelude.{ℕ, Bool, not, ◌&&◌, ◌||◌, ◌==◌, Option, Some, None, List, [], ◌∷◌, ◌++◌, length, if◌then◌else◌}
use Rattle.std.specs.Int.{bytes_high_first}
use Rattle.std.specs.List.{filter, flat_map, starts_with}
use Rattle.sha2.specs.Sha512.{sha384, sha512}
use Rattle.name_spec.specs.OwnedNames.{is_same_name, lowered_wire}
use Rattle.wire_records.specs.UnknownView.{UnknownData}
use Rattle.wire_records.specs.UnknownComparing.{is_same_unknown}
use Rattle.zonemd_check.specs.ZoneRecordView.{ZoneRecordView}

-- ---- which records stay

-- data of a ZONEMD record, or of an RRSIG record over these (RFC 4034, section 3.1.1)
abbrev pub is_about_zonemd : UnknownData → Bool
is_about_zonemd found =
    found.rtype == 63 || found.rtype == 46 && starts_with ◌==◌ found.octets (0 ∷ 63 ∷ [])

-- a ZONEMD record of the apex or a signature over these, which no digest covers
abbrev pub is_excluded : List (List ℕ) → ZoneRecordView → Bool
is_excluded apex found = is_about_zonemd found.record_data && is_same_name found.owner apex

-- a record with the owner, type and data of the one before it, the owner's case ignored
abbrev pub is_repeat : ZoneRecordView → ZoneRecordView → Bool
is_repeat before found =
    is_same_unknown before.record_data found.record_data && is_same_name before.owner found.owner

-- the records that don't repeat the one just before them, the first of which stands behind `before`
abbrev pub fresh_behind : ZoneRecordView → List ZoneRecordView → List ZoneRecordView
fresh_behind before [] = []
fresh_behind before (found ∷ others) =
    if is_repeat before found then fresh_behind found others
    else found ∷ fresh_behind found others

abbrev pub without_repeats : List ZoneRecordView → List ZoneRecordView
without_repeats [] = []
without_repeats (first ∷ others) = first ∷ fresh_behind first others

-- the records that stay: no ZONEMD record of the apex, no signature over these, no repeat
abbrev pub staying : List (List ℕ) → List ZoneRecordView → List ZoneRecordView
staying apex records = filter (λ found. not (is_excluded apex found)) (without_repeats records)

-- ---- their octets

-- a record in canonical form (RFC 4034, section 6.2): owner in lower case, type, class, TTL, length
-- of the data, data
abbrev pub record_octets : ZoneRecordView → List ℕ
record_octets found =
    lowered_wire found.owner
    ++ bytes_high_first 2 found.record_data.rtype
    ++ bytes_high_first 2 found.class
    ++ bytes_high_first 4 found.ttl
    ++ bytes_high_first 2 (length found.record_data.octets)
    ++ found.record_data.octets

-- what is digested of a zone: the records that stay, joined in order
unfoldable pub zone_octets : List (List ℕ) → List ZoneRecordView → List ℕ
zone_octets apex records = flat_map record_octets (staying apex records)

-- ---- the digest

-- the digest of octets by the algorithm with this number: SHA-384 or SHA-512 (RFC 8976, section
-- 2.2.3)
abbrev pub digest_by : ℕ → List ℕ → Option (List ℕ)
digest_by algorithm octets =
    if algorithm == 1 then Some (sha384 octets)
    else if algorithm == 2 then Some (sha512 octets)
    else None

-- the digest of a zone under its apex
unfoldable pub zone_digest : List (List ℕ) → List ZoneRecordView → ℕ → Option (List ℕ)
zone_digest apex records algorithm = digest_by algorithm (zone_octets apex records)
