-- What the front of a text means, and what is left behind it. Offered to the crates above:
-- `lexemes_at-skip`, `lexemes_at-front`, and for functions that read a text lexeme by lexeme
-- `lexemes_at-end`, `lexemes_at-refused` and `lexemes_at-read`.
use Rattle.std.proofs.Common.{◌≡◌, ℕ, zero, suc, ◌-◌, Result, Ok, Err, List, [], ◌∷◌, length, drop, take, refl, sym, ap, ◌∙◌, arith}
use Rattle.std.proofs.lemmas.List.{take_rest}
use Rattle.text_spec.specs.declared.errors.ScanError.{ScanError}
use Rattle.text_spec.specs.declared.lexeme.Lexeme.{Lexeme}
use Rattle.text_spec.specs.declared.lexeme.LexerState.{LexerState}
use Rattle.text_spec.specs.declared.lexeme.LexerStep.{LexerStep}
use Rattle.text_spec.specs.Lexing.{step, end_at, with_front, lexemes_at}

-- octets that an earlier lexeme has are passed over
pub lexemes_at-skip : (state : LexerState) (k : ℕ) (rest : List ℕ)
    → lexemes_at state k rest ≡ lexemes_at state 0 (drop k rest)
unfolding lexemes_at
lexemes_at-skip state zero rest = refl
lexemes_at-skip state (suc k) [] = refl
lexemes_at-skip state (suc k) (c ∷ rest) = lexemes_at-skip state k rest

-- the lexemes of a text whose front means this
abbrev pub after : List ℕ → Result LexerStep ScanError → Result (List Lexeme) ScanError
after rest (Err fault) = Err fault
after rest (Ok front) = with_front front.lexeme (lexemes_at front.state front.len rest)

pub lexemes_at-front : (state : LexerState) (c : ℕ) (rest : List ℕ)
    → lexemes_at state 0 (c ∷ rest) ≡ after rest (step state c rest)
unfolding lexemes_at
lexemes_at-front state c rest = refl

-- nothing is left
pub lexemes_at-end : (state : LexerState) (text : List ℕ) → length text ≡ 0
    → lexemes_at state 0 text ≡ end_at state
unfolding lexemes_at
lexemes_at-end state [] none = refl
lexemes_at-end state (c ∷ text) none = absurd (omega arith)

-- the front is refused
pub lexemes_at-refused : (state : LexerState) (c : ℕ) (rest text : List ℕ) (fault : ScanError)
    → text ≡ c ∷ rest → Err fault ≡ step state c rest
    → lexemes_at state 0 text ≡ Err fault
lexemes_at-refused state c rest text fault is refused =
    ap (lexemes_at state 0) is ∙ lexemes_at-front state c rest ∙ ap (after rest) (sym refused)

-- the front is a lexeme, and its octets are passed over
pub lexemes_at-reads : (state : LexerState) (c : ℕ) (rest : List ℕ) (front : LexerStep)
    → step state c rest ≡ Ok front
    → lexemes_at state 0 (c ∷ rest)
    ≡ with_front front.lexeme (lexemes_at front.state 0 (drop front.len rest))
lexemes_at-reads state c rest front is =
    lexemes_at-front state c rest ∙ ap (after rest) is
    ∙ ap (with_front front.lexeme) (lexemes_at-skip front.state front.len rest)

-- the same, with what is left as a range of a slice has it
pub lexemes_at-read : (state : LexerState) (c : ℕ) (rest text : List ℕ) (front : LexerStep)
    → text ≡ c ∷ rest → Ok front ≡ step state c rest
    → lexemes_at state 0 text
    ≡ with_front front.lexeme
    (lexemes_at front.state 0 (take (length rest - front.len) (drop front.len rest)))
lexemes_at-read state c rest text front is reads =
    ap (lexemes_at state 0) is ∙ lexemes_at-reads state c rest front (sym reads)
    ∙ ap (λ left. with_front front.lexeme (lexemes_at front.state 0 left))
    (sym (take_rest rest front.len))
