use Rattle.svcb_spec.proofs.ValueLaws.{values_read_back}
use Rattle.svcb_spec.proofs.laws.values_read_back.Goals as goal

pub returns : goal.returns
returns c = values_read_back
