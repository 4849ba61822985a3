use Rattle.std.proofs.Common.{ap, ◌∙◌}
use Rattle.svcb_choose.specs.Choosing.{endpoints_from}
use Rattle.svcb_choose.proofs.KeySets.{endpoints_alike}
use Rattle.svcb_choose.proofs.DistinctDefaults.{distinct_alike}
use Rattle.svcb_choose.proofs.choosing.usable_endpoints.Goals as goal

pub returns : goal.returns
returns g c =
    let owner = c.args.owner.now in
    let understood = c.args.understood.now in
    let records = c.args.records.now in
    c.in_ok-endpoints.ensures ∙ endpoints_alike _ _ c.in_ok-known.ensures _ _ 0 _
    ∙ ap (λ protocols. endpoints_from owner understood protocols 0 records)
    (c.as_slice.ensures.value ∙ c.in_ok-distinct.ensures)
    ∙ distinct_alike owner understood c.args.defaults.now 0 records
