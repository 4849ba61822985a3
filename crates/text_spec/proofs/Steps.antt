-- What the octets and the pieces of a text mean at their places.
use Rattle.std.proofs.Common.{◌≡◌, ℕ, suc, ◌-◌, ◌<◌, Bool, true, false, cond, not, Result, Ok, Err, Some, List, [], ◌∷◌, ◌++◌, map, length, drop, refl, sym, ap, ◌∙◌, arith, append_assoc, add-one}
use Rattle.std.specs.Prelude.{◌==◌}
use Rattle.std.proofs.lemmas.Bool.Decides.{nat_tests}
use Rattle.std.proofs.lemmas.List.{drop_at}
use Rattle.std.proofs.lemmas.List.Sums.{take_while-cons}
use Rattle.std.specs.Option.{option_map_or}
use Rattle.std.specs.List.{flat_map, take_while, AllByRecursion}
use Rattle.name_spec.specs.Printed.{Written, Plain, Escaped, Decimal, octet_text}
use Rattle.text_spec.specs.declared.errors.ScanError.{ScanError}
use Rattle.text_spec.specs.declared.errors.ScanError.TheVariants.{BadEscape, BadBracket}
use Rattle.text_spec.specs.declared.lexeme.Lexeme.{Lexeme}
use Rattle.text_spec.specs.declared.lexeme.Lexeme.TheVariants.{Octet, Quote, Gap}
use Rattle.text_spec.specs.declared.lexeme.LexerState.{LexerState}
use Rattle.text_spec.specs.declared.lexeme.LexerStep.{LexerStep}
use Rattle.text_spec.specs.Lexing.{step_of, line_len, escape_of, symbol_step, quoted_step, open_step, ended_step, step, with_front, lexemes_at}
use Rattle.text_spec.specs.Pieces.{is_blank, is_bare, is_quotable, is_escapable, symbol_of, lexemes_of, piece_octets, Quoted, IsSymbol, IsComment}
use Rattle.text_spec.proofs.Escapes.{decimal_digits, escape_of-escaped, escape_of-decimal}
use Rattle.text_spec.proofs.Skips.{lexemes_at-refused, lexemes_at-reads}

-- ---- places

-- in the entry, within so many brackets
abbrev pub in_entry : ℕ → LexerState
in_entry depth = record { depth = depth; quoted = false; ended = false }

-- in a quoted string
abbrev pub in_string : ℕ → LexerState
in_string depth = record { depth = depth; quoted = true; ended = false }

-- behind the line's end that ends the entry
abbrev pub behind : LexerState
behind = record { depth = 0; quoted = false; ended = true }

pub entry-reads : (depth c : ℕ) (rest : List ℕ) (front : LexerStep)
    → open_step (in_entry depth) c rest ≡ Ok front
    → lexemes_at (in_entry depth) 0 (c ∷ rest)
    ≡ with_front front.lexeme (lexemes_at front.state 0 (drop front.len rest))
unfolding step
entry-reads depth c rest front is = lexemes_at-reads (in_entry depth) c rest front is

pub entry-refuses : (depth c : ℕ) (rest : List ℕ) (fault : ScanError)
    → open_step (in_entry depth) c rest ≡ Err fault
    → lexemes_at (in_entry depth) 0 (c ∷ rest) ≡ Err fault
unfolding step
entry-refuses depth c rest fault is =
    lexemes_at-refused (in_entry depth) c rest (c ∷ rest) fault refl (sym is)

pub string-reads : (depth c : ℕ) (rest : List ℕ) (front : LexerStep)
    → quoted_step (in_string depth) c rest ≡ Ok front
    → lexemes_at (in_string depth) 0 (c ∷ rest)
    ≡ with_front front.lexeme (lexemes_at front.state 0 (drop front.len rest))
unfolding step
string-reads depth c rest front is = lexemes_at-reads (in_string depth) c rest front is

pub string-refuses : (depth c : ℕ) (rest : List ℕ) (fault : ScanError)
    → quoted_step (in_string depth) c rest ≡ Err fault
    → lexemes_at (in_string depth) 0 (c ∷ rest) ≡ Err fault
unfolding step
string-refuses depth c rest fault is =
    lexemes_at-refused (in_string depth) c rest (c ∷ rest) fault refl (sym is)

pub behind-reads : (c : ℕ) (rest : List ℕ) (front : LexerStep) → ended_step behind c rest ≡ Ok front
    → lexemes_at behind 0 (c ∷ rest)
    ≡ with_front front.lexeme (lexemes_at front.state 0 (drop front.len rest))
unfolding step
behind-reads c rest front is = lexemes_at-reads behind c rest front is

pub behind-refuses : (c : ℕ) (rest : List ℕ) (fault : ScanError)
    → ended_step behind c rest ≡ Err fault → lexemes_at behind 0 (c ∷ rest) ≡ Err fault
unfolding step
behind-refuses c rest fault is = lexemes_at-refused behind c rest (c ∷ rest) fault refl (sym is)

-- ---- symbols

-- an octet that an escape stands for
abbrev escaped_octet : ℕ → Lexeme
escaped_octet c = Octet (record { octet = c; escaped = true })

escape-step : (state : LexerState) (rest : List ℕ) (octet len : ℕ) → escape_of rest ≡ Some (octet, len)
    → symbol_step state 92 rest ≡ step_of (escaped_octet octet) state len
escape-step state rest octet len is =
    ap (λ o. option_map_or (λ e. step_of (escaped_octet e.0) state e.1) o (Err BadEscape)) is

escaped-step : (state : LexerState) (c : ℕ) (rest : List ℕ) → is_escapable c ≡ true
    → symbol_step state 92 (c ∷ rest) ≡ step_of (escaped_octet c) state 1
escaped-step state c rest escapable =
    escape-step state (c ∷ rest) c 1 (escape_of-escaped c rest escapable)

decimal-step : (state : LexerState) (c : ℕ) (rest : List ℕ) → c < 256
    → symbol_step state 92 (decimal_digits c ++ rest) ≡ step_of (escaped_octet c) state 3
decimal-step state c rest octet =
    escape-step state (decimal_digits c ++ rest) c 3 (escape_of-decimal c rest octet)

bare-step : (state : LexerState) (c : ℕ) (rest : List ℕ) → is_bare c ≡ true
    → open_step state c rest ≡ step_of (Octet (record { octet = c; escaped = false })) state 0
bare-step state c rest bare = grind (arith, nat_tests)

quotable-step : (state : LexerState) (c : ℕ) (rest : List ℕ) → is_quotable c ≡ true
    → quoted_step state c rest ≡ step_of (Octet (record { octet = c; escaped = false })) state 0
quotable-step state c rest quotable = grind (arith, nat_tests)

-- a symbol outside quotes
pub bare-read : (depth : ℕ) (symbol : Written) (rest : List ℕ) → IsSymbol is_bare symbol
    → lexemes_at (in_entry depth) 0 (octet_text symbol ++ rest)
    ≡ with_front (Octet (symbol_of symbol)) (lexemes_at (in_entry depth) 0 rest)
bare-read depth (Plain c) rest bare =
    entry-reads depth c rest _ (bare-step (in_entry depth) c rest bare)
bare-read depth (Escaped c) rest escapable =
    entry-reads depth 92 (c ∷ rest) _ (escaped-step (in_entry depth) c rest escapable)
bare-read depth (Decimal c) rest octet =
    entry-reads depth 92 (decimal_digits c ++ rest) _ (decimal-step (in_entry depth) c rest octet)

-- a symbol in a quoted string
pub quotable-read : (depth : ℕ) (symbol : Written) (rest : List ℕ) → IsSymbol is_quotable symbol
    → lexemes_at (in_string depth) 0 (octet_text symbol ++ rest)
    ≡ with_front (Octet (symbol_of symbol)) (lexemes_at (in_string depth) 0 rest)
quotable-read depth (Plain c) rest quotable =
    string-reads depth c rest _ (quotable-step (in_string depth) c rest quotable)
quotable-read depth (Escaped c) rest escapable =
    string-reads depth 92 (c ∷ rest) _ (escaped-step (in_string depth) c rest escapable)
quotable-read depth (Decimal c) rest octet =
    string-reads depth 92 (decimal_digits c ++ rest) _ (decimal-step (in_string depth) c rest octet)

-- ---- lexemes in front

-- lexemes in front of the lexemes that follow them
abbrev pub with_lexemes : List Lexeme → Result (List Lexeme) ScanError
    → Result (List Lexeme) ScanError
with_lexemes front (Ok lexemes) = Ok (front ++ lexemes)
with_lexemes front (Err fault) = Err fault

pub with_lexemes-nil : (answer : Result (List Lexeme) ScanError) → with_lexemes [] answer ≡ answer
with_lexemes-nil (Ok lexemes) = refl
with_lexemes-nil (Err fault) = refl

pub with_lexemes-cons : (x : Lexeme) (front : List Lexeme) (answer : Result (List Lexeme) ScanError)
    → with_lexemes (x ∷ front) answer ≡ with_front x (with_lexemes front answer)
with_lexemes-cons x front (Ok lexemes) = refl
with_lexemes-cons x front (Err fault) = refl

-- one lexeme more in front of such an answer
pub one_more : (x : Lexeme) (front : List Lexeme)
    (answer following : Result (List Lexeme) ScanError) → following ≡ with_lexemes front answer
    → with_front x following ≡ with_lexemes (x ∷ front) answer
one_more x front answer following is = ap (with_front x) is ∙ sym (with_lexemes-cons x front answer)

pub with_lexemes-append : (front more : List Lexeme) (answer : Result (List Lexeme) ScanError)
    → with_lexemes (front ++ more) answer ≡ with_lexemes front (with_lexemes more answer)
with_lexemes-append front more (Ok lexemes) = ap Ok (append_assoc front more lexemes)
with_lexemes-append front more (Err fault) = refl

-- ---- quoted strings

abbrev pub lexemes_of_symbols : List Written → List Lexeme
lexemes_of_symbols symbols = map (λ w. Octet (symbol_of w)) symbols

-- the quote that begins a string
pub quote-begins : (depth : ℕ) (rest : List ℕ)
    → lexemes_at (in_entry depth) 0 (34 ∷ rest)
    ≡ with_front Quote (lexemes_at (in_string depth) 0 rest)
quote-begins depth rest = entry-reads depth 34 rest _ refl

-- the quote that ends it
quote-ends : (depth : ℕ) (rest : List ℕ)
    → lexemes_at (in_string depth) 0 (34 ∷ rest)
    ≡ with_front Quote (lexemes_at (in_entry depth) 0 rest)
quote-ends depth rest = string-reads depth 34 rest _ refl

pub symbols-read : (depth : ℕ) (symbols : List Written) (rest : List ℕ)
    → AllByRecursion (IsSymbol is_quotable) symbols
    → lexemes_at (in_string depth) 0 (flat_map octet_text symbols ++ rest)
    ≡ with_lexemes (lexemes_of_symbols symbols) (lexemes_at (in_string depth) 0 rest)
symbols-read depth [] rest quotable = sym (with_lexemes-nil (lexemes_at (in_string depth) 0 rest))
symbols-read depth (symbol ∷ symbols) rest quotable =
    ap (lexemes_at (in_string depth) 0)
    (append_assoc (octet_text symbol) (flat_map octet_text symbols) rest)
    ∙ quotable-read depth symbol (flat_map octet_text symbols ++ rest) quotable.0
    ∙ ap (with_front (Octet (symbol_of symbol))) (symbols-read depth symbols rest quotable.1)
    ∙ sym (with_lexemes-cons (Octet (symbol_of symbol)) (lexemes_of_symbols symbols)
    (lexemes_at (in_string depth) 0 rest))

pub string-read : (depth : ℕ) (symbols : List Written) (rest : List ℕ)
    → AllByRecursion (IsSymbol is_quotable) symbols
    → lexemes_at (in_entry depth) 0 (piece_octets (Quoted symbols) ++ rest)
    ≡ with_lexemes (lexemes_of (Quoted symbols)) (lexemes_at (in_entry depth) 0 rest)
string-read depth symbols rest quotable =
    let following = lexemes_at (in_entry depth) 0 rest in
    ap (λ left. lexemes_at (in_entry depth) 0 (34 ∷ left))
    (append_assoc (flat_map octet_text symbols) (34 ∷ []) rest)
    ∙ quote-begins depth (flat_map octet_text symbols ++ 34 ∷ rest)
    ∙ ap (with_front Quote) (symbols-read depth symbols (34 ∷ rest) quotable
    ∙ ap (with_lexemes (lexemes_of_symbols symbols))
    (quote-ends depth rest
    ∙ sym (with_lexemes-cons Quote [] following
    ∙ ap (with_front Quote) (with_lexemes-nil following)))
    ∙ sym (with_lexemes-append (lexemes_of_symbols symbols) (Quote ∷ []) following))
    ∙ sym (with_lexemes-cons Quote (lexemes_of_symbols symbols ++ Quote ∷ []) following)

-- ---- gaps

blank-step : (state : LexerState) (c : ℕ) (rest : List ℕ) → is_blank c ≡ true
    → open_step state c rest ≡ step_of Gap state 0
blank-step state c rest blank = grind (arith, nat_tests)

pub blank-read : (depth c : ℕ) (rest : List ℕ) → is_blank c ≡ true
    → lexemes_at (in_entry depth) 0 (c ∷ rest) ≡ with_front Gap (lexemes_at (in_entry depth) 0 rest)
blank-read depth c rest blank =
    entry-reads depth c rest _ (blank-step (in_entry depth) c rest blank)

blank-step_behind : (state : LexerState) (c : ℕ) (rest : List ℕ) → is_blank c ≡ true
    → ended_step state c rest ≡ step_of Gap state 0
blank-step_behind state c rest blank = grind (arith, nat_tests)

pub blank-read_behind : (c : ℕ) (rest : List ℕ) → is_blank c ≡ true
    → lexemes_at behind 0 (c ∷ rest) ≡ with_front Gap (lexemes_at behind 0 rest)
blank-read_behind c rest blank = behind-reads c rest _ (blank-step_behind behind c rest blank)

suc-is_zero : (n : ℕ) → (suc n == 0) ≡ false
suc-is_zero n = grind (arith, nat_tests)

-- the line's end that ends the entry
pub line-read : (rest : List ℕ)
    → lexemes_at (in_entry 0) 0 (10 ∷ rest) ≡ with_front Gap (lexemes_at behind 0 rest)
line-read rest = entry-reads 0 10 rest _ refl

-- a line's end within brackets
pub line-read_within : (depth : ℕ) (rest : List ℕ)
    → lexemes_at (in_entry (suc depth)) 0 (10 ∷ rest)
    ≡ with_front Gap (lexemes_at (in_entry (suc depth)) 0 rest)
line-read_within depth rest =
    entry-reads (suc depth) 10 rest (record { lexeme = Gap; state = in_entry (suc depth); len = 0 })
    (ap (λ ended. step_of Gap (record { depth = suc depth; quoted = false; ended = ended }) 0)
    (suc-is_zero depth))

pub line-read_behind : (rest : List ℕ)
    → lexemes_at behind 0 (10 ∷ rest) ≡ with_front Gap (lexemes_at behind 0 rest)
line-read_behind rest = behind-reads 10 rest _ refl

pub opening-read : (depth : ℕ) (rest : List ℕ)
    → lexemes_at (in_entry depth) 0 (40 ∷ rest)
    ≡ with_front Gap (lexemes_at (in_entry (suc depth)) 0 rest)
opening-read depth rest =
    entry-reads depth 40 rest (record { lexeme = Gap; state = in_entry (suc depth); len = 0 })
    (ap (λ n. step_of Gap (in_entry n) 0) (add-one depth))

closing-step : (depth : ℕ) (rest : List ℕ)
    → open_step (in_entry (suc depth)) 41 rest ≡ step_of Gap (in_entry depth) 0
closing-step depth rest =
    ap (λ none. cond none (Err BadBracket) (step_of Gap (in_entry (suc depth - 1)) 0))
    (suc-is_zero depth)
    ∙ ap (λ n. step_of Gap (in_entry n) 0) (omega arith)

pub closing-read : (depth : ℕ) (rest : List ℕ)
    → lexemes_at (in_entry (suc depth)) 0 (41 ∷ rest)
    ≡ with_front Gap (lexemes_at (in_entry depth) 0 rest)
closing-read depth rest = entry-reads (suc depth) 41 rest _ (closing-step depth rest)

-- ---- comments

-- a comment ends where its line does
comment_len : (text following : List ℕ) → IsComment text following
    → line_len (text ++ following) ≡ length text
comment_len [] [] comment = refl
comment_len [] (c ∷ following) comment = ap (λ k. line_len (k ∷ following)) comment.1
comment_len (c ∷ text) following comment =
    let more : ℕ → Bool = λ k. not (k == 10) in
    ap length (take_while-cons more c (text ++ following))
    ∙ ap (λ b. length (cond b (c ∷ take_while more (text ++ following)) [])) comment.0.0
    ∙ ap suc (comment_len text following (comment.0.1, comment.1))

drop-comment : (text following : List ℕ) → IsComment text following
    → drop (line_len (text ++ following)) (text ++ following) ≡ following
drop-comment text following comment =
    drop_at text following (line_len (text ++ following)) (sym (comment_len text following comment))

pub comment-read : (depth : ℕ) (text following : List ℕ) → IsComment text following
    → lexemes_at (in_entry depth) 0 (59 ∷ text ++ following)
    ≡ with_front Gap (lexemes_at (in_entry depth) 0 following)
comment-read depth text following comment =
    entry-reads depth 59 (text ++ following) _ refl
    ∙ ap (λ left. with_front Gap (lexemes_at (in_entry depth) 0 left))
    (drop-comment text following comment)

pub comment-read_behind : (text following : List ℕ) → IsComment text following
    → lexemes_at behind 0 (59 ∷ text ++ following) ≡ with_front Gap (lexemes_at behind 0 following)
comment-read_behind text following comment =
    behind-reads 59 (text ++ following) _ refl
    ∙ ap (λ left. with_front Gap (lexemes_at behind 0 left))
    (drop-comment text following comment)
