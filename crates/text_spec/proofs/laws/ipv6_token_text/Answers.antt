use Rattle.text_spec.proofs.PlainTexts.{ipv6_token}
use Rattle.text_spec.proofs.laws.ipv6_token_text.Goals as goal

pub returns : goal.returns
returns c = ipv6_token
