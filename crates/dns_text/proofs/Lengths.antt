-- How many lexemes and tokens a text has.
use Rattle.std.proofs.Common.{◌≡◌, ℕ, zero, suc, ◌+◌, ◌≤◌, true, false, cond, Result, Ok, Err, Some, None, List, [], ◌∷◌, ◌++◌, length, refl, ap, arith}
use Rattle.std.specs.Prelude.{◌==◌}
use Rattle.text_spec.specs.declared.errors.ScanError.{ScanError}
use Rattle.text_spec.specs.declared.errors.ScanError.TheVariants.{OpenQuote, BadBracket}
use Rattle.text_spec.specs.declared.lexeme.Lexeme.{Lexeme}
use Rattle.text_spec.specs.declared.lexeme.LexerState.{LexerState}
use Rattle.text_spec.specs.Lexing.{step, end_at, with_front, lexemes_at}
use Rattle.text_spec.specs.Tokens.{start, found_in, tokens_in}
use Rattle.text_spec.specs.Pieces.{token_groups}
use Rattle.text_spec.specs.declared.lexeme.Symbol.{Symbol}
use Rattle.text_spec.specs.declared.lexeme.Lexeme.TheVariants.{Octet, Quote, Gap}
use Rattle.text_spec.proofs.Skips.{after, lexemes_at-front}

length-with_front : (front : Lexeme) (answer : Result (List Lexeme) ScanError)
    → length (found_in (with_front front answer)) ≤ length (found_in answer) + 1
length-with_front front (Ok lexemes) = omega arith
length-with_front front (Err fault) = omega arith

length-end_at : (state : LexerState) → length (found_in (end_at state)) ≡ 0
length-end_at state =
    elim state.quoted as
    (λ q. length {A = Lexeme}
    (found_in {T = Lexeme}
    (cond q (Err OpenQuote) (cond (state.depth == 0) (Ok []) (Err BadBracket)))) ≡ 0) [
      | true ↦ refl
      | false ↦ elim (state.depth == 0) as
          (λ b. length {A = Lexeme} (found_in {T = Lexeme} (cond b (Ok []) (Err BadBracket))) ≡ 0)
          [ true ↦ refl | false ↦ refl ]
    ]

-- each lexeme has an octet of its own
pub length-lexemes : (state : LexerState) (skip : ℕ) (text : List ℕ)
    → length (found_in (lexemes_at state skip text)) ≤ length text
unfolding lexemes_at
length-lexemes state skip [] = omega (arith, length-end_at state)
length-lexemes state (suc skip) (c ∷ rest) = omega (arith, length-lexemes state skip rest)
length-lexemes state zero (c ∷ rest) =
    let by_front =
    ap (λ (r : Result (List Lexeme) ScanError). length (found_in r))
    (lexemes_at-front state c rest) in
    let most : length (found_in (after rest (step state c rest))) ≤ length rest + 1 =
    elim (step state c rest) as (λ r. length (found_in (after rest r)) ≤ length rest + 1) [
      | Err fault ↦ omega arith
      | Ok front ↦ omega (
        arith,
        length-with_front front.lexeme (lexemes_at front.state front.len rest),
        length-lexemes front.state front.len rest,
      )
    ] in
    omega (arith, by_front, most)

mutual
  length-grouped : (lexemes : List Lexeme) → length (token_groups None lexemes) ≤ length lexemes
  length-grouped [] = omega arith
  length-grouped (Gap ∷ lexemes) = omega (arith, length-grouped lexemes)
  length-grouped (Quote ∷ lexemes) = omega (arith, length-grouped_open [] lexemes)
  length-grouped (Octet symbol ∷ lexemes) = omega (arith, length-grouped_open (symbol ∷ []) lexemes)

  length-grouped_open : (token : List Symbol) (lexemes : List Lexeme)
      → length (token_groups (Some token) lexemes) ≤ length lexemes + 1
  length-grouped_open token [] = omega arith
  length-grouped_open token (Gap ∷ lexemes) = omega (arith, length-grouped lexemes)
  length-grouped_open token (Quote ∷ lexemes) = omega (arith, length-grouped_open token lexemes)
  length-grouped_open token (Octet symbol ∷ lexemes) =
      omega (arith, length-grouped_open (token ++ symbol ∷ []) lexemes)

-- a text has no more tokens than octets
pub length-tokens : (text : List ℕ) → length (tokens_in text) ≤ length text
length-tokens text =
    omega (arith, length-grouped (found_in (lexemes_at start 0 text)), length-lexemes start 0 text)
