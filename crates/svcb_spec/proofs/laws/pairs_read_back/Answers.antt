use Rattle.svcb_spec.proofs.PairsBack.{pairs_at-wire}
use Rattle.svcb_spec.proofs.laws.pairs_read_back.Goals as goal

pub returns : goal.returns
returns c = pairs_at-wire
