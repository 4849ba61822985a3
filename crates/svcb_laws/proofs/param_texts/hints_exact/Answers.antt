use Rattle.svcb_laws.proofs.ListRows.{hints_exact}
use Rattle.svcb_laws.proofs.param_texts.hints_exact.Goals as goal

pub returns : goal.returns
returns c = hints_exact
