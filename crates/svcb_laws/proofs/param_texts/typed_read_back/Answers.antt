use Rattle.svcb_laws.proofs.ValuesAgain.{typed_again}
use Rattle.svcb_laws.proofs.param_texts.typed_read_back.Goals as goal

pub returns : goal.returns
returns c = typed_again
