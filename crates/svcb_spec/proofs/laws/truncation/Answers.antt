use Rattle.svcb_spec.proofs.Truncation.{truncated}
use Rattle.svcb_spec.proofs.laws.truncation.Goals as goal

pub returns : goal.returns
returns c = truncated
