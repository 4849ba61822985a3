use Rattle.svcb_laws.proofs.PairTexts.{pair_again}
use Rattle.svcb_laws.proofs.param_texts.pair_read_back.Goals as goal

pub returns : goal.returns
returns c = pair_again
