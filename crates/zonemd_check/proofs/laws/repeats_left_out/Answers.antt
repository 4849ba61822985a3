use Rattle.zonemd_check.proofs.ZoneLaws.{repeats_left_out}
use Rattle.zonemd_check.proofs.laws.repeats_left_out.Goals as goal

pub returns : goal.returns
returns c = repeats_left_out
