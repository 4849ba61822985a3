use Rattle.svcb_spec.proofs.PairLaws.{pairs_at-step}
use Rattle.svcb_spec.proofs.laws.pairs_by_step.Goals as goal

pub returns : goal.returns
returns c = pairs_at-step
