-- What pieces spell is read again as these pieces, and a text that has a fault is refused with it.
-- Offered to the crates above: `has_tokens` and `has_fault`.
use Rattle.std.proofs.Common.{◌≡◌, ℕ, zero, suc, ◌<◌, true, false, cond, ◌||◌, not, Result, Ok, Err, Some, None, List, [], ◌∷◌, ◌++◌, refl, sym, ap, ◌∙◌, inl, inr, arith, append_assoc}
use Rattle.std.specs.Prelude.{◌==◌}
use Rattle.std.proofs.lemmas.Bool.Decides.{nat_tests}
use Rattle.std.proofs.lemmas.List.{append-nil}
use Rattle.std.specs.Option.{option_map_or}
use Rattle.std.specs.List.{flat_map, AllByRecursion}
use Rattle.name_spec.specs.Printed.{Written, octet_text}
use Rattle.text_spec.specs.declared.errors.ScanError.{ScanError}
use Rattle.text_spec.specs.declared.errors.ScanError.TheVariants.{BadSymbol, BadEscape, OpenQuote, BadBracket, TrailingTokens}
use Rattle.text_spec.specs.declared.lexeme.Lexeme.{Lexeme}
use Rattle.text_spec.specs.declared.lexeme.Lexeme.TheVariants.{Octet, Quote, Gap}
use Rattle.text_spec.specs.declared.lexeme.Symbol.{Symbol}
use Rattle.text_spec.specs.declared.lexeme.LexerState.{LexerState}
use Rattle.text_spec.specs.Lexing.{step_of, end_at, symbol_step, quoted_step, open_step, ended_step, with_front, lexemes_at}
use Rattle.text_spec.specs.Pieces.{is_blank, is_quotable, is_stray, is_stray_in_quotes, symbol_of, token_groups, IsSymbol, NoEscape, Piece, Blank, LineEnd, Comment, Opening, Closing, Bare, Quoted, piece_octets, lexemes_of, IsTailRow, IsPieceRow, IsEntry, HasTokens, FaultInQuotes, FaultAt, FaultAfter, HasFault}
use Rattle.text_spec.specs.Tokens.{start, fault_of, found_in, text_fault, tokens_in}
use Rattle.text_spec.proofs.Skips.{lexemes_at-end}
use Rattle.text_spec.proofs.Escapes.{escape_of-none}
use Rattle.text_spec.proofs.Steps.{lexemes_of_symbols, entry-refuses, string-refuses, behind-refuses, quote-begins, symbols-read, in_entry, in_string, behind, with_lexemes, with_lexemes-nil, one_more, with_lexemes-append, blank-read, blank-read_behind, line-read, line-read_within, line-read_behind, comment-read, comment-read_behind, opening-read, closing-read, bare-read, string-read}

-- ---- rows of pieces

-- where these texts are answered so, whatever follows the row
module _ (within : ℕ → Type 0) (ended : Type 0) (rest : List ℕ)
    (answer : Result (List Lexeme) ScanError)
    (here : (depth : ℕ) → within depth → lexemes_at (in_entry depth) 0 rest ≡ answer)
    (there : ended → lexemes_at behind 0 rest ≡ answer) where
  tail_again : (pieces : List Piece) → IsTailRow ended rest pieces
      → lexemes_at behind 0 (flat_map piece_octets pieces ++ rest)
      ≡ with_lexemes (flat_map lexemes_of pieces) answer
  tail_again [] row = there row ∙ sym (with_lexemes-nil answer)
  tail_again (Blank c ∷ pieces) row =
      let following = flat_map piece_octets pieces ++ rest in
      blank-read_behind c following row.0
      ∙ one_more Gap (flat_map lexemes_of pieces) answer (lexemes_at behind 0 following)
      (tail_again pieces row.1)
  tail_again (LineEnd ∷ pieces) row =
      let following = flat_map piece_octets pieces ++ rest in
      line-read_behind following
      ∙ one_more Gap (flat_map lexemes_of pieces) answer (lexemes_at behind 0 following)
      (tail_again pieces row)
  tail_again (Comment text ∷ pieces) row =
      let following = flat_map piece_octets pieces ++ rest in
      ap (λ left. lexemes_at behind 0 (59 ∷ left))
      (append_assoc text (flat_map piece_octets pieces) rest)
      ∙ comment-read_behind text following row.0
      ∙ one_more Gap (flat_map lexemes_of pieces) answer (lexemes_at behind 0 following)
      (tail_again pieces row.1)
  tail_again (Opening ∷ pieces) row = absurd row
  tail_again (Closing ∷ pieces) row = absurd row
  tail_again (Bare symbol ∷ pieces) row = absurd row
  tail_again (Quoted symbols ∷ pieces) row = absurd row

  row_again : (depth : ℕ) (pieces : List Piece) → IsPieceRow within ended rest depth pieces
      → lexemes_at (in_entry depth) 0 (flat_map piece_octets pieces ++ rest)
      ≡ with_lexemes (flat_map lexemes_of pieces) answer
  row_again depth [] row = here depth row ∙ sym (with_lexemes-nil answer)
  row_again depth (Blank c ∷ pieces) row =
      let following = flat_map piece_octets pieces ++ rest in
      blank-read depth c following row.0
      ∙ one_more Gap (flat_map lexemes_of pieces) answer
      (lexemes_at (in_entry depth) 0 following) (row_again depth pieces row.1)
  row_again zero (LineEnd ∷ pieces) row =
      let following = flat_map piece_octets pieces ++ rest in
      line-read following
      ∙ one_more Gap (flat_map lexemes_of pieces) answer (lexemes_at behind 0 following)
      (tail_again pieces row)
  row_again (suc depth) (LineEnd ∷ pieces) row =
      let following = flat_map piece_octets pieces ++ rest in
      line-read_within depth following
      ∙ one_more Gap (flat_map lexemes_of pieces) answer
      (lexemes_at (in_entry (suc depth)) 0 following) (row_again (suc depth) pieces row)
  row_again depth (Comment text ∷ pieces) row =
      let following = flat_map piece_octets pieces ++ rest in
      ap (λ left. lexemes_at (in_entry depth) 0 (59 ∷ left))
      (append_assoc text (flat_map piece_octets pieces) rest)
      ∙ comment-read depth text following row.0
      ∙ one_more Gap (flat_map lexemes_of pieces) answer (lexemes_at (in_entry depth) 0 following)
      (row_again depth pieces row.1)
  row_again depth (Opening ∷ pieces) row =
      let following = flat_map piece_octets pieces ++ rest in
      opening-read depth following
      ∙ one_more Gap (flat_map lexemes_of pieces) answer
      (lexemes_at (in_entry (suc depth)) 0 following) (row_again (suc depth) pieces row)
  row_again zero (Closing ∷ pieces) row = absurd row
  row_again (suc depth) (Closing ∷ pieces) row =
      let following = flat_map piece_octets pieces ++ rest in
      closing-read depth following
      ∙ one_more Gap (flat_map lexemes_of pieces) answer
      (lexemes_at (in_entry depth) 0 following) (row_again depth pieces row)
  row_again depth (Bare symbol ∷ pieces) row =
      let following = flat_map piece_octets pieces ++ rest in
      ap (lexemes_at (in_entry depth) 0)
      (append_assoc (piece_octets (Bare symbol)) (flat_map piece_octets pieces) rest)
      ∙ bare-read depth symbol following row.0
      ∙ one_more (Octet (symbol_of symbol)) (flat_map lexemes_of pieces) answer
      (lexemes_at (in_entry depth) 0 following) (row_again depth pieces row.1)
  row_again depth (Quoted symbols ∷ pieces) row =
      let following = flat_map piece_octets pieces ++ rest in
      ap (lexemes_at (in_entry depth) 0)
      (append_assoc (piece_octets (Quoted symbols)) (flat_map piece_octets pieces) rest)
      ∙ string-read depth symbols following row.0
      ∙ ap (with_lexemes (lexemes_of (Quoted symbols))) (row_again depth pieces row.1)
      ∙ sym (with_lexemes-append (lexemes_of (Quoted symbols)) (flat_map lexemes_of pieces) answer)

-- an entry is read again
pub entry_again : (depth : ℕ) (pieces : List Piece) → IsEntry depth pieces
    → lexemes_at (in_entry depth) 0 (flat_map piece_octets pieces) ≡ Ok (flat_map lexemes_of pieces)
entry_again depth pieces row =
    ap (lexemes_at (in_entry depth) 0) (sym (append-nil (flat_map piece_octets pieces)))
    ∙ row_again (λ open_brackets. open_brackets ≡ 0) (Unit {0}) [] (Ok [])
    (λ depth' none. lexemes_at-end (in_entry depth') [] refl ∙ ap (λ n. end_at (in_entry n)) none)
    (λ _. lexemes_at-end behind [] refl) depth pieces row
    ∙ ap Ok (append-nil (flat_map lexemes_of pieces))

pub has_tokens : (text : List ℕ) (tokens : List (List Symbol)) → HasTokens text tokens
    → (text_fault text ≡ None) × (tokens_in text ≡ tokens)
has_tokens text tokens (pieces, row, is, tokens_are) =
    let again = ap (lexemes_at start 0) is ∙ entry_again 0 pieces row in
    (ap fault_of again, ap (λ answer. token_groups None (found_in answer)) again ∙ sym tokens_are)

-- ---- faults

not_zero : (n : ℕ) → 0 < n → (n == 0) ≡ false
not_zero n positive = grind (arith, nat_tests)

escape-refused : (state : LexerState) (rest : List ℕ) → NoEscape rest
    → symbol_step state 92 rest ≡ Err BadEscape
escape-refused state rest none =
    ap (λ o. option_map_or
    (λ e. step_of (Octet (record { octet = e.0; escaped = true })) state e.1) o
    (Err BadEscape)) (escape_of-none rest none)

stray-refused : (state : LexerState) (c : ℕ) (rest : List ℕ) → is_stray c ≡ true
    → open_step state c rest ≡ Err BadSymbol
stray-refused state c rest stray = grind (arith, nat_tests)

stray-refused_in_string : (state : LexerState) (c : ℕ) (rest : List ℕ) → is_stray_in_quotes c ≡ true
    → quoted_step state c rest ≡ Err BadSymbol
stray-refused_in_string state c rest stray = grind (arith, nat_tests)

trailing-refused : (state : LexerState) (c : ℕ) (rest : List ℕ)
    → not (is_blank c || (c == 10) || (c == 59)) ≡ true
    → ended_step state c rest ≡ Err TrailingTokens
trailing-refused state c rest trailing = grind (arith, nat_tests)

entry_refused : (rest : List ℕ) (fault : ScanError) (depth : ℕ) → FaultAt rest fault depth
    → lexemes_at (in_entry depth) 0 rest ≡ Err fault
entry_refused [] BadBracket depth has =
    lexemes_at-end (in_entry depth) [] refl
    ∙ ap (λ none. cond none (Ok []) (Err BadBracket)) (not_zero depth has)
entry_refused (c ∷ rest) BadBracket depth has =
    ap (λ k. lexemes_at (in_entry depth) 0 (k ∷ rest)) has.0
    ∙ ap (λ n. lexemes_at (in_entry n) 0 (41 ∷ rest)) has.1
    ∙ entry-refuses 0 41 rest BadBracket refl
entry_refused (c ∷ rest) BadSymbol depth has =
    entry-refuses depth c rest BadSymbol (stray-refused (in_entry depth) c rest has)
entry_refused (c ∷ rest) BadEscape depth has =
    ap (λ k. lexemes_at (in_entry depth) 0 (k ∷ rest)) has.0
    ∙ entry-refuses depth 92 rest BadEscape (escape-refused (in_entry depth) rest has.1)
entry_refused rest fault depth has = absurd has

behind_refused : (rest : List ℕ) (fault : ScanError) → FaultAfter rest fault
    → lexemes_at behind 0 rest ≡ Err fault
behind_refused (c ∷ rest) TrailingTokens has =
    behind-refuses c rest TrailingTokens (trailing-refused behind c rest has)
behind_refused rest fault has = absurd has

string_refused : (rest : List ℕ) (fault : ScanError) (depth : ℕ) → FaultInQuotes rest fault
    → lexemes_at (in_string depth) 0 rest ≡ Err fault
string_refused [] OpenQuote depth has = lexemes_at-end (in_string depth) [] refl
string_refused (c ∷ rest) BadSymbol depth has =
    string-refuses depth c rest BadSymbol (stray-refused_in_string (in_string depth) c rest has)
string_refused (c ∷ rest) BadEscape depth has =
    ap (λ k. lexemes_at (in_string depth) 0 (k ∷ rest)) has.0
    ∙ string-refuses depth 92 rest BadEscape (escape-refused (in_string depth) rest has.1)
string_refused rest fault depth has = absurd has

-- a string that is not closed is refused
unclosed_refused : (depth : ℕ) (symbols : List Written) (after : List ℕ) (fault : ScanError)
    → AllByRecursion (IsSymbol is_quotable) symbols
    → FaultInQuotes after fault
    → lexemes_at (in_entry depth) 0 (34 ∷ flat_map octet_text symbols ++ after) ≡ Err fault
unclosed_refused depth symbols after fault quotable has =
    quote-begins depth (flat_map octet_text symbols ++ after)
    ∙ ap (with_front Quote)
    (symbols-read depth symbols after quotable
    ∙ ap (with_lexemes (lexemes_of_symbols symbols)) (string_refused after fault depth has))

-- a text that has a fault is refused with it
pub fault_again : (depth : ℕ) (text : List ℕ) (fault : ScanError) → HasFault depth text fault
    → lexemes_at (in_entry depth) 0 text ≡ Err fault
fault_again depth text fault (pieces, rest, is, inl row) =
    ap (lexemes_at (in_entry depth) 0) is
    ∙ row_again (FaultAt rest fault) (FaultAfter rest fault) rest (Err fault)
    (entry_refused rest fault) (behind_refused rest fault) depth pieces row
fault_again depth text fault
    (pieces, rest, is, inr (symbols, after, unclosed, quotable, has, row)) =
    ap (lexemes_at (in_entry depth) 0) is
    ∙ row_again (λ _. Unit {0}) ⊥ rest (Err fault)
    (λ depth' _. ap (lexemes_at (in_entry depth') 0) unclosed
    ∙ unclosed_refused depth' symbols after fault quotable has)
    (λ impossible. absurd impossible) depth pieces row

pub has_fault : (text : List ℕ) (fault : ScanError) → HasFault 0 text fault
    → text_fault text ≡ Some fault
has_fault text fault has = ap fault_of (fault_again 0 text fault has)
