-- What the steps answer that read the text of an entry.
use Rattle.std.specs.Prelude.{◌≡◌, ◌≤◌, ◌<◌, ℕ, ◌+◌, List, [], ◌∷◌, ◌++◌, length, map, false, Option, Some, None, Result, Ok, Err, IfOk, drop}
use Rattle.text_spec.specs.declared.errors.ScanError.{ScanError}
use Rattle.text_spec.specs.declared.lexeme.Symbol.{Symbol}
use Rattle.text_spec.specs.declared.lexeme.LexerState.{LexerState}
use Rattle.text_spec.specs.declared.lexeme.LexerStep.{LexerStep}
use Rattle.text_spec.specs.declared.lexeme.Lexeme.{Lexeme}
use Rattle.text_spec.specs.declared.lexeme.Lexeme.TheVariants.{Gap, Octet}
use Rattle.text_spec.specs.Lexing.{with_front}
use Rattle.text_spec.specs.Pieces.{token_groups}
use Rattle.text_spec.specs.Scanning.{Scan, octets_of}

-- what is read lies in the text, and opens at most one bracket
abbrev pub StaysWithin : LexerState → List ℕ → Result LexerStep ScanError → Type 0
StaysWithin state rest result =
    IfOk result (λ front. (front.len ≤ length rest) × (front.state.depth ≤ state.depth + 1))

-- what a call answers that takes a lexeme, where the first of these lexemes were left before it and
-- the others after it
abbrev pub Takes : Result (Option Lexeme) ScanError → Result (List Lexeme) ScanError
    → Result (List Lexeme) ScanError
    → Type 0
Takes (Ok (Some lexeme)) before after = before ≡ with_front lexeme after
Takes (Ok None) before after = (before ≡ Ok []) × (after ≡ Ok [])
Takes (Err fault) before after = before ≡ Err fault

-- octets that stand for themselves, as symbols
abbrev pub bare_symbols : List ℕ → List Symbol
bare_symbols octets = map (λ octet. record { octet = octet; escaped = false }) octets

-- and as lexemes, in front of the lexemes that follow them
abbrev pub with_bare : List ℕ → Result (List Lexeme) ScanError → Result (List Lexeme) ScanError
with_bare [] answer = answer
with_bare (octet ∷ octets) answer =
    with_front (Octet (record { octet = octet; escaped = false })) (with_bare octets answer)

-- a token begins here
abbrev pub BeginsToken : List Lexeme → Type 0
BeginsToken [] = ⊥
BeginsToken (Gap ∷ lexemes) = ⊥
BeginsToken (lexeme ∷ lexemes) = Unit {0}

-- the next symbol of the token that is read, or none where the token ends
abbrev pub GoesOn : Option Symbol → List Lexeme → List Lexeme → Type 0
GoesOn (Some symbol) old new =
    (token : List Symbol)
    → token_groups (Some token) old ≡ token_groups (Some (token ++ symbol ∷ [])) new
GoesOn None old new =
    (token : List Symbol) → token_groups (Some token) old ≡ token ∷ token_groups None new

-- the token that is read goes on with octets that stand for themselves
abbrev pub GoesOnWith : List ℕ → List Lexeme → List Lexeme → Type 0
GoesOnWith octets old new =
    (token : List Symbol)
    → token_groups (Some token) old ≡ token_groups (Some (token ++ bare_symbols octets)) new

-- the token that is read is passed over, and its octets are appended
pub record AppendsToken (old new : List Lexeme) (before after : List ℕ) : Type 0 where
  pub token : List Symbol
  pub passed : token_groups (Some []) old ≡ token ∷ token_groups None new
  pub appended : after ≡ before ++ octets_of token

-- a token is left, and these tokens are left behind it
pub record IsBehindNext (scan : Scan) (left : List (List Symbol)) : Type 0 where
  pub behind : left ≡ drop (scan.taken + 1) scan.tokens
  pub more : scan.taken < length scan.tokens
