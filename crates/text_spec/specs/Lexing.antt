-- How the text of one entry is read, octet by octet. The laws `TokensRead` and `FaultRead` say that
-- this reads what `Pieces` has as an entry, and finds the first fault of any other text.
use Rattle.std.specs.Option.{option_map_or}
use Rattle.std.specs.Prelude.{ℕ, zero, suc, ◌+◌, ◌-◌, ◌*◌, Bool, true, false, ◌&&◌, ◌||◌, not, nat_le, ◌==◌, if◌then◌else◌, List, [], ◌∷◌, length, Option, Some, None, Result, Ok, Err}
use Rattle.std.specs.Char.{is_ascii_digit}
use Rattle.std.specs.List.{take_while}
use Rattle.text_spec.specs.declared.errors.ScanError.{ScanError}
use Rattle.text_spec.specs.declared.errors.ScanError.TheVariants.{BadSymbol, BadEscape, OpenQuote, BadBracket, TrailingTokens}
use Rattle.text_spec.specs.declared.lexeme.LexerState.{LexerState}
use Rattle.text_spec.specs.declared.lexeme.LexerStep.{LexerStep}
use Rattle.text_spec.specs.declared.lexeme.Lexeme.{Lexeme}
use Rattle.text_spec.specs.declared.lexeme.Lexeme.TheVariants.{Octet, Quote, Gap}
use Rattle.text_spec.specs.Pieces.{is_blank, is_control, is_stray_in_quotes}

-- the number that three digits spell
abbrev pub three_digits : ℕ → ℕ → ℕ → ℕ
three_digits a b c = (a - 48) * 100 + (b - 48) * 10 + (c - 48)

-- three decimal digits of at most 255: their number, and how many octets they have
abbrev pub decimal_of : List ℕ → Option (ℕ × ℕ)
decimal_of (a ∷ b ∷ c ∷ rest) =
    if is_ascii_digit a && is_ascii_digit b && is_ascii_digit c && nat_le (three_digits a b c) 255
    then Some (three_digits a b c, 3) else None
decimal_of rest = None

-- the octet that an escape stands for, and how many octets it has behind the backslash
abbrev pub escape_of : List ℕ → Option (ℕ × ℕ)
escape_of [] = None
escape_of (a ∷ rest) =
    if is_ascii_digit a then decimal_of (a ∷ rest)
    else (if nat_le 32 a && nat_le a 126 then Some (a, 1) else None)

-- how many octets stand before the line's end
abbrev pub line_len : List ℕ → ℕ
line_len rest = length (take_while (λ c. not (c == 10)) rest)

abbrev pub with_depth : LexerState → ℕ → LexerState
with_depth state depth = record state { depth = depth }

abbrev pub in_quotes : LexerState → Bool → LexerState
in_quotes state quoted = record state { quoted = quoted }

-- a lexeme, the state behind it, and how many octets it has behind its first
abbrev pub step_of : Lexeme → LexerState → ℕ → Result LexerStep ScanError
step_of lexeme state len = Ok (record { lexeme = lexeme; state = state; len = len })

-- an octet or an escape of a token
abbrev pub symbol_step : LexerState → ℕ → List ℕ → Result LexerStep ScanError
symbol_step state c rest =
    if c == 92
    then option_map_or (λ e. step_of (Octet (record { octet = e.0; escaped = true })) state e.1)
    (escape_of rest) (Err BadEscape)
    else step_of (Octet (record { octet = c; escaped = false })) state 0

-- within quotes
abbrev pub quoted_step : LexerState → ℕ → List ℕ → Result LexerStep ScanError
quoted_step state c rest =
    if c == 34 then step_of Quote (in_quotes state false) 0
    else (if is_stray_in_quotes c then Err BadSymbol
    else symbol_step state c rest)

-- behind the line's end that ends the entry
abbrev pub ended_step : LexerState → ℕ → List ℕ → Result LexerStep ScanError
ended_step state c rest =
    if is_blank c || (c == 10) then step_of Gap state 0
    else (if c == 59 then step_of Gap state (line_len rest)
    else Err TrailingTokens)

-- in the entry, outside quotes
abbrev pub open_step : LexerState → ℕ → List ℕ → Result LexerStep ScanError
open_step state c rest =
    if is_blank c then step_of Gap state 0
    else (if c == 10 then step_of Gap (record state { ended = state.depth == 0 }) 0
    else (if c == 59 then step_of Gap state (line_len rest)
    else (if c == 40 then step_of Gap (with_depth state (state.depth + 1)) 0
    else (if c == 41 then
    (if state.depth == 0 then Err BadBracket
    else step_of Gap (with_depth state (state.depth - 1)) 0)
    else (if c == 34 then step_of Quote (in_quotes state true) 0
    else (if is_control c then Err BadSymbol
    else symbol_step state c rest))))))

-- what the front of a text means at a state
unfoldable pub step : LexerState → ℕ → List ℕ → Result LexerStep ScanError
step state c rest =
    if state.quoted then quoted_step state c rest
    else (if state.ended then ended_step state c rest
    else open_step state c rest)

-- the text ends at a state
abbrev pub end_at : LexerState → Result (List Lexeme) ScanError
end_at state =
    if state.quoted then Err OpenQuote else (if state.depth == 0 then Ok [] else Err BadBracket)

-- a lexeme in front of the lexemes that follow it
abbrev pub with_front : Lexeme → Result (List Lexeme) ScanError → Result (List Lexeme) ScanError
with_front front (Ok lexemes) = Ok (front ∷ lexemes)
with_front front (Err fault) = Err fault

-- the lexemes of a text from a state on, behind so many octets that an earlier lexeme has
unfoldable pub lexemes_at : LexerState → ℕ → List ℕ → Result (List Lexeme) ScanError
lexemes_at state skip [] = end_at state
lexemes_at state (suc skip) (c ∷ rest) = lexemes_at state skip rest
lexemes_at state zero (c ∷ rest) = elim (step state c rest) [
  | Err fault ↦ Err fault
  | Ok front ↦ with_front front.lexeme (lexemes_at front.state front.len rest)
]
