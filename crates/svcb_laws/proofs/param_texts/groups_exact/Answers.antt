use Rattle.svcb_laws.proofs.ListRows.{groups_exact}
use Rattle.svcb_laws.proofs.param_texts.groups_exact.Goals as goal

pub returns : goal.returns
returns c = groups_exact
