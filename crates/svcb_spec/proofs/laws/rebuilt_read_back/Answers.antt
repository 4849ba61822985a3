use Rattle.svcb_spec.proofs.RebuildLaws.{rebuilt_read_back}
use Rattle.svcb_spec.proofs.laws.rebuilt_read_back.Goals as goal

pub returns : goal.returns
returns c = rebuilt_read_back
