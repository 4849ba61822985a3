use Rattle.svcb_laws.proofs.ListRows.{alpn_value_exact}
use Rattle.svcb_laws.proofs.param_texts.alpn_value_exact.Goals as goal

pub returns : goal.returns
returns c = alpn_value_exact
