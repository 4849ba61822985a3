-- The order of a zone's records (RFC 4034, sections 6.1 and 6.3).
use Rattle.std.specs.Prelude.{Bool, true, not, ◌&&◌, List, [], ◌∷◌}
use Rattle.std.specs.declared.cmp.Ordering.{Ordering}
use Rattle.std.specs.Ordering.{ordering_then, is_gt}
use Rattle.name_spec.specs.OwnedNames.{name_cmp}
use Rattle.wire_records.specs.UnknownComparing.{unknown_cmp}
use Rattle.zonemd_check.specs.ZoneRecordView.{ZoneRecordView}

-- by owner, then by type number, then by the octets of the data
abbrev pub record_cmp : ZoneRecordView → ZoneRecordView → Ordering
record_cmp found other =
    ordering_then (name_cmp found.owner other.owner)
    (unknown_cmp found.record_data other.record_data)

-- no record stands behind one that is greater, the first not behind `before`
abbrev pub ascend_behind : ZoneRecordView → List ZoneRecordView → Bool
ascend_behind before [] = true
ascend_behind before (found ∷ others) =
    not (is_gt (record_cmp before found)) && ascend_behind found others

-- no record stands behind one that is greater; equal ones may repeat
abbrev pub records_ascend : List ZoneRecordView → Bool
records_ascend [] = true
records_ascend (first ∷ others) = ascend_behind first others
