use Rattle.svcb_laws.proofs.ProtocolLists.{alpn_exact}
use Rattle.svcb_laws.proofs.param_texts.alpn_exact.Goals as goal

pub returns : goal.returns
returns c = alpn_exact
