use Rattle.svcb_spec.proofs.ValueLaws.{values_in_octets}
use Rattle.svcb_spec.proofs.laws.values_in_octets.Goals as goal

pub returns : goal.returns
returns c = values_in_octets
