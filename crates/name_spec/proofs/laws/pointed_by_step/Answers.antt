use Rattle.name_spec.proofs.NameLaws.{is_pointed-step}
use Rattle.name_spec.proofs.laws.pointed_by_step.Goals as goal

pub returns : goal.returns
returns c = is_pointed-step
