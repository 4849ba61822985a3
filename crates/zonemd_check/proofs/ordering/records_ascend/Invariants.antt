use Rattle.std.proofs.Common.{◌≡◌, ◌-◌, drop, get_or}
use Rattle.zonemd_check.specs.ZoneRecordView.{ZoneRecordView}
use Rattle.zonemd_check.specs.Ordering.{ascend_behind, records_ascend}
use Rattle.zonemd_check.proofs.ordering.records_ascend.Given as goal

abbrev pub invariant-loop-place : goal.invariant-loop-place
invariant-loop-place l =
    (d : ZoneRecordView) → records_ascend l.records
    ≡ ascend_behind (get_or l.records (l.place - 1) d) (drop l.place l.records)
