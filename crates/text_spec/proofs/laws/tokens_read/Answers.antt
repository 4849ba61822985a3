use Rattle.std.proofs.Common.{subst}
use Rattle.text_spec.specs.Pieces.{HasTokens}
use Rattle.text_spec.proofs.Again.{has_tokens}
use Rattle.text_spec.proofs.Found.{tokens_found}
use Rattle.text_spec.proofs.laws.tokens_read.Goals as goal

pub returns : goal.returns
returns c = λ text tokens.
    (has_tokens text tokens, λ read. subst (HasTokens text) read.1 (tokens_found text read.0))
