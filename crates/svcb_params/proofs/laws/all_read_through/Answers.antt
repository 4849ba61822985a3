use Rattle.svcb_params.proofs.ReadBack.{read_through}
use Rattle.svcb_params.proofs.laws.all_read_through.Goals as goal

pub returns : goal.returns
returns c = read_through
