use Rattle.svcb_params.proofs.TypedValues.{first_typed}
use Rattle.svcb_params.proofs.laws.first_under_key.Goals as goal

pub returns : goal.returns
returns c = first_typed
