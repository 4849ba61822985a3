-- Where a record repeats the one just before it.
use Rattle.std.specs.Prelude.{ℕ, zero, suc, Bool, false, List, [], ◌∷◌}
use Rattle.zonemd_check.specs.ZoneRecordView.{ZoneRecordView}
use Rattle.zonemd_check.specs.Digesting.{is_repeat}

-- the same at a place behind `before`
abbrev pub repeats_behind : ZoneRecordView → List ZoneRecordView → ℕ → Bool
repeats_behind before [] place = false
repeats_behind before (found ∷ others) zero = is_repeat before found
repeats_behind before (found ∷ others) (suc place) = repeats_behind found others place

-- whether the record at a place repeats the one just before it
abbrev pub repeats_before : List ZoneRecordView → ℕ → Bool
repeats_before [] place = false
repeats_before (first ∷ others) zero = false
repeats_before (first ∷ others) (suc place) = repeats_behind first others place
