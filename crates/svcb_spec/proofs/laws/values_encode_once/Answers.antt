use Rattle.svcb_spec.proofs.ValueLaws.{values_encode_once}
use Rattle.svcb_spec.proofs.laws.values_encode_once.Goals as goal

pub returns : goal.returns
returns c = values_encode_once
