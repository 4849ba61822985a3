use Rattle.text_spec.proofs.TokenOctets.{token_octets}
use Rattle.text_spec.proofs.laws.tokens_of_octets.Goals as goal

pub returns : goal.returns
returns c = token_octets
