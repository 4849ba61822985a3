use Rattle.svcb_laws.proofs.ListRows.{mandatory_exact}
use Rattle.svcb_laws.proofs.param_texts.mandatory_exact.Goals as goal

pub returns : goal.returns
returns c = mandatory_exact
