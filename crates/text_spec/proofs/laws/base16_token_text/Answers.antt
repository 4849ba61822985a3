use Rattle.text_spec.proofs.PlainTexts.{base16_token}
use Rattle.text_spec.proofs.laws.base16_token_text.Goals as goal

pub returns : goal.returns
returns c = base16_token
