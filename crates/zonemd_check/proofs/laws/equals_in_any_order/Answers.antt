use Rattle.zonemd_check.proofs.ZoneLaws.{equals_in_any_order}
use Rattle.zonemd_check.proofs.laws.equals_in_any_order.Goals as goal

pub returns : goal.returns
returns c = equals_in_any_order
