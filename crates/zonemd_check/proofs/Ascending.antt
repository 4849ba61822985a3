-- Going over records that are to ascend.
use Rattle.std.proofs.Common.{◌≡◌, ℕ, ◌+◌, ◌<◌, ◌≤◌, Bool, true, false, not, ◌&&◌, List, [], ◌∷◌, length, get_or, drop, refl, ap, ◌∙◌, add-one, drop-cons}
use Rattle.std.specs.Ordering.{is_gt}
use Rattle.std.proofs.lemmas.List.{drop_all}
use Rattle.zonemd_check.specs.ZoneRecordView.{ZoneRecordView}
use Rattle.zonemd_check.specs.Ordering.{record_cmp, ascend_behind, records_ascend}

pub ascend_first : (records : List ZoneRecordView) (d : ZoneRecordView)
    → records_ascend records ≡ ascend_behind (get_or records 0 d) (drop 1 records)
ascend_first [] d = refl
ascend_first (first ∷ others) d = refl

next : (before : ZoneRecordView) (records : List ZoneRecordView) (place : ℕ) (d : ZoneRecordView)
    → place < length records
    → ascend_behind before (drop place records)
    ≡ (not (is_gt (record_cmp before (get_or records place d)))
    && ascend_behind (get_or records place d) (drop (place + 1) records))
next before records place d within =
    rw add-one (ap (ascend_behind before) (drop-cons records place d within))

go_on : (b c : Bool) → b ≡ false → (not b && c) ≡ c
go_on true c h = cc
go_on false c h = refl

stop : (b c : Bool) → b ≡ true → (not b && c) ≡ false
stop true c h = refl
stop false c h = cc

-- a record that is not below the one before it
pub ascend_on : (before : ZoneRecordView) (records : List ZoneRecordView) (place : ℕ) (d : ZoneRecordView)
    → place < length records → is_gt (record_cmp before (get_or records place d)) ≡ false
    → ascend_behind before (drop place records)
    ≡ ascend_behind (get_or records place d) (drop (place + 1) records)
ascend_on before records place d within is =
    next before records place d within ∙ go_on _ _ is

-- one that is
pub ascend_stop : (before : ZoneRecordView) (records : List ZoneRecordView) (place : ℕ) (d : ZoneRecordView)
    → place < length records → is_gt (record_cmp before (get_or records place d)) ≡ true
    → ascend_behind before (drop place records) ≡ false
ascend_stop before records place d within is =
    next before records place d within ∙ stop _ _ is

pub ascend_end : (before : ZoneRecordView) (records : List ZoneRecordView) (place : ℕ)
    → length records ≤ place → ascend_behind before (drop place records) ≡ true
ascend_end before records place is = ap (ascend_behind before) (drop_all place records is)
