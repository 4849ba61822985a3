use Rattle.name_spec.proofs.OwnedNameLaws.{name_in-wire}
use Rattle.name_spec.proofs.laws.name_in_wire.Goals as goal

pub returns : goal.returns
returns c = name_in-wire
