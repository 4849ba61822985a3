use Rattle.name_spec.proofs.NameLaws.{name_at-step}
use Rattle.name_spec.proofs.laws.name_by_step.Goals as goal

pub returns : goal.returns
returns c = name_at-step
