use Rattle.svcb_laws.proofs.DataTexts.{line_text_again}
use Rattle.svcb_laws.proofs.data_texts.data_line_read_back.Goals as goal

pub returns : goal.returns
returns c = line_text_again
