use Rattle.svcb_laws.proofs.TokenOrders.{any_order}
use Rattle.svcb_laws.proofs.param_texts.any_token_order.Goals as goal

pub returns : goal.returns
returns c = any_order
