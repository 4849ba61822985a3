use Rattle.svcb_laws.proofs.DataTexts.{layout_again}
use Rattle.svcb_laws.proofs.data_texts.data_layout_read_back.Goals as goal

pub returns : goal.returns
returns c = layout_again
