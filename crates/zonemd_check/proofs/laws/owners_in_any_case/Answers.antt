use Rattle.zonemd_check.proofs.ZoneLaws.{owners_in_any_case}
use Rattle.zonemd_check.proofs.laws.owners_in_any_case.Goals as goal

pub returns : goal.returns
returns c = owners_in_any_case
