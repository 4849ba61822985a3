use Rattle.svcb_laws.proofs.CommaLists.{comma_items_exact}
use Rattle.svcb_laws.proofs.param_texts.comma_items_exact.Goals as goal

pub returns : goal.returns
returns c = comma_items_exact
