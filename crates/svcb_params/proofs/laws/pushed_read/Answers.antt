use Rattle.svcb_params.proofs.ReadBack.{pushed_is_read}
use Rattle.svcb_params.proofs.laws.pushed_read.Goals as goal

pub returns : goal.returns
returns c = pushed_is_read
