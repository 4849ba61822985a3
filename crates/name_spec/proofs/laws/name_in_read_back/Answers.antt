use Rattle.name_spec.proofs.OwnedNameLaws.{name_in-name_wire}
use Rattle.name_spec.proofs.laws.name_in_read_back.Goals as goal

pub returns : goal.returns
returns c = name_in-name_wire
