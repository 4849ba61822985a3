use Rattle.std.proofs.Common.{refl}
use Rattle.text_spec.proofs.TokenTexts.{blank_on, token_on}
use Rattle.text_spec.proofs.laws.token_in_front.Goals as goal

pub returns : goal.returns
returns c = λ text rest token tokens is has.
    token_on 0 _ tokens text token is (blank_on 0 rest tokens 32 refl has)
