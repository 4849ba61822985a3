use Rattle.svcb_laws.proofs.ParamTokens.{params_again}
use Rattle.svcb_laws.proofs.param_texts.params_read_back.Goals as goal

pub returns : goal.returns
returns c = params_again
