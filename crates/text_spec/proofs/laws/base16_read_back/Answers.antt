use Rattle.text_spec.proofs.EncodingTexts.{base16_again}
use Rattle.text_spec.proofs.laws.base16_read_back.Goals as goal

pub returns : goal.returns
returns c = base16_again
