use Rattle.svcb_laws.proofs.ParamTokens.{params_text_again}
use Rattle.svcb_laws.proofs.param_texts.params_text_read_back.Goals as goal

pub returns : goal.returns
returns c = params_text_again
