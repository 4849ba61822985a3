use Rattle.svcb_laws.proofs.DataTexts.{text_again}
use Rattle.svcb_laws.proofs.data_texts.data_text_read_back.Goals as goal

pub returns : goal.returns
returns c = text_again
