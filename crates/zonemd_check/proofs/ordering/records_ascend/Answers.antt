use Rattle.std.proofs.Common.{[], length, ◌≤◌, ◌∙◌, sym, arith}
use Rattle.zonemd_check.specs.ZoneRecordView.{ZoneRecordView}
use Rattle.zonemd_check.proofs.Ascending.{ascend_end}
use Rattle.zonemd_check.proofs.ordering.records_ascend.Goals as goal

any : ZoneRecordView
any = record { owner = []; class = 0; ttl = 0; record_data = record { rtype = 0; octets = [] } }

pub returns : goal.returns
returns c =
    let within : length c.args.records.now ≤ c.loop-place.place = omega arith in
    sym (c.loop-place.invariant any ∙ ascend_end _ c.args.records.now c.loop-place.place within)
