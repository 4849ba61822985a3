use Rattle.name_spec.proofs.OwnedNameLaws.{AreLabels-read}
use Rattle.name_spec.proofs.laws.name_has_labels.Goals as goal

pub returns : goal.returns
returns c = AreLabels-read
