use Rattle.name_spec.proofs.OwnedNameLaws.{name_at-name_wire}
use Rattle.name_spec.proofs.laws.name_read_back.Goals as goal

pub returns : goal.returns
returns c = name_at-name_wire
