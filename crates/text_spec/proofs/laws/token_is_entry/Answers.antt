use Rattle.text_spec.proofs.TokenTexts.{has_token}
use Rattle.text_spec.proofs.laws.token_is_entry.Goals as goal

pub returns : goal.returns
returns c = has_token
