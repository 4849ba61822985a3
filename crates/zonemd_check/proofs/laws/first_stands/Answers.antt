use Rattle.zonemd_check.proofs.ZoneLaws.{first_stands}
use Rattle.zonemd_check.proofs.laws.first_stands.Goals as goal

pub returns : goal.returns
returns c = first_stands
