-- The tokens of a text, or its first fault.
use Rattle.std.specs.Prelude.{ℕ, false, Option, Some, None, Result, Ok, Err, List, []}
use Rattle.text_spec.specs.declared.errors.ScanError.{ScanError}
use Rattle.text_spec.specs.declared.lexeme.Symbol.{Symbol}
use Rattle.text_spec.specs.declared.lexeme.LexerState.{LexerState}
use Rattle.text_spec.specs.Lexing.{lexemes_at}
use Rattle.text_spec.specs.Pieces.{token_groups}

-- where a text begins
abbrev pub start : LexerState
start = record { depth = 0; quoted = false; ended = false }

abbrev pub fault_of : {T : Type 0} → Result T ScanError → Option ScanError
fault_of (Ok x) = None
fault_of (Err fault) = Some fault

abbrev pub found_in : {T : Type 0} → Result (List T) ScanError → List T
found_in (Ok xs) = xs
found_in (Err fault) = []

-- the text's first fault, if it has one
abbrev pub text_fault : List ℕ → Option ScanError
text_fault text = fault_of (lexemes_at start 0 text)

-- the tokens of a text without a fault
abbrev pub tokens_in : List ℕ → List (List Symbol)
tokens_in text = token_groups None (found_in (lexemes_at start 0 text))
