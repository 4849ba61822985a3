use Rattle.text_spec.proofs.PlainTexts.{base64_token}
use Rattle.text_spec.proofs.laws.base64_token_text.Goals as goal

pub returns : goal.returns
returns c = base64_token
