use Rattle.text_spec.proofs.PlainTexts.{plain_again}
use Rattle.text_spec.proofs.laws.plain_read_back.Goals as goal

pub returns : goal.returns
returns c = plain_again
