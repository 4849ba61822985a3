-- Parameters that are scanned from tokens.
use Rattle.std.specs.Prelude.{◌≡◌, ℕ, List, drop, IsPermutation, Result, Ok}
use Rattle.svcb_spec.specs.Params.{Pairs}
use Rattle.text_spec.specs.declared.errors.ScanError.{ScanError}
use Rattle.text_spec.specs.declared.lexeme.Symbol.{Symbol}
use Rattle.text_spec.specs.Scanning.{Scan, Answers, done}
use Rattle.svcb_spec.specs.ParamTexts.{params_of}

-- Where the tokens left are, in another order, tokens that spell a map, the answer is that map.
-- Only a failed allocation may stand in its place.
abbrev pub AnswersInAnyOrder : Scan → Result Pairs ScanError → Type 0
AnswersInAnyOrder before result = (tokens : List (List Symbol)) (pairs : Pairs) (place end : ℕ)
    → params_of tokens place ≡ done pairs end
    → IsPermutation tokens (drop before.taken before.tokens)
    → Answers (λ params. params) result (Ok pairs)
