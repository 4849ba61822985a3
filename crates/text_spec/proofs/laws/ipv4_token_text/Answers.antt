use Rattle.text_spec.proofs.PlainTexts.{ipv4_token}
use Rattle.text_spec.proofs.laws.ipv4_token_text.Goals as goal

pub returns : goal.returns
returns c = ipv4_token
