-- Each text is an entry or has a fault, so what is read of a text is what it has. Offered to the
-- crates above: `tokens_found` and `fault_found`.
use Rattle.std.proofs.Common.{◌≡◌, ℕ, zero, suc, ◌≤◌, Bool, true, false, cond, ◌||◌, not, Some, None, List, [], ◌∷◌, ◌++◌, length, take, drop, refl, sym, ap, subst, ◌∙◌, inl, inr, arith, append_assoc, length-append, length-drop}
use Rattle.std.specs.Prelude.{IsTrue, ◌==◌, ◌⊎◌}
use Rattle.std.proofs.lemmas.Bool.{cases_Bool, not-false}
use Rattle.std.proofs.lemmas.Bool.Decides.{nat_tests}
use Rattle.std.proofs.lemmas.List.{append-nil, take-append-drop}
use Rattle.std.proofs.lemmas.List.Sums.{take_while-cons}
use Rattle.std.specs.List.{flat_map, take_while, AllByRecursion}
use Rattle.name_spec.specs.Printed.{Written, Plain, Escaped, Decimal, octet_text}
use Rattle.text_spec.specs.declared.errors.ScanError.{ScanError}
use Rattle.text_spec.specs.declared.errors.ScanError.TheVariants.{BadSymbol, BadEscape, OpenQuote, BadBracket, TrailingTokens}
use Rattle.text_spec.specs.Lexing.{line_len}
use Rattle.text_spec.specs.Pieces.{is_blank, is_control, is_bare, is_quotable, is_stray, is_stray_in_quotes, Piece, Blank, LineEnd, Comment, Opening, Closing, Bare, Quoted, piece_octets, tokens_of, IsSymbol, IsComment, IsTailRow, IsPieceRow, IsEntry, HasTokens, FaultInQuotes, FaultAt, FaultAfter, HasFault}
use Rattle.text_spec.specs.Tokens.{text_fault, tokens_in}
use Rattle.text_spec.proofs.Escapes.{escape_or_none}
use Rattle.text_spec.proofs.Again.{has_tokens, has_fault}

-- ---- pieces in front

-- the text of a piece more in front of pieces and what follows them
spelled_on : (piece : Piece) (pieces : List Piece) (text rest : List ℕ)
    → text ≡ flat_map piece_octets pieces ++ rest
    → piece_octets piece ++ text ≡ flat_map piece_octets (piece ∷ pieces) ++ rest
spelled_on piece pieces text rest is =
    ap (λ left. piece_octets piece ++ left) is
    ∙ sym (append_assoc (piece_octets piece) (flat_map piece_octets pieces) rest)

-- a case for each answer of a test
by_test : {A : Type 0} (b : Bool) → (b ≡ true → A) → (b ≡ false → A) → A
by_test b holds fails = elim (cases_Bool b) [ inl is ↦ holds is | inr is ↦ fails is ]

eqb_is : (c k : ℕ) → (c == k) ≡ true → c ≡ k
eqb_is c k test = grind (arith, nat_tests)

-- an escape may stand where other symbols may
escape_is_symbol : (plain : ℕ → Bool) (symbol : Written) → IsSymbol (λ _. false) symbol
    → IsSymbol plain symbol
escape_is_symbol plain (Plain c) escape = absurd cc
escape_is_symbol plain (Escaped c) escape = escape
escape_is_symbol plain (Decimal c) escape = escape

-- what is behind an escape is shorter
behind_escape : (rest more : List ℕ) (symbol : Written) → 92 ∷ rest ≡ octet_text symbol ++ more
    → length more ≤ length rest
behind_escape rest more (Plain c) is = omega (arith, ap length is)
behind_escape rest more (Escaped c) is = omega (arith, ap length is)
behind_escape rest more (Decimal c) is = omega (arith, ap length is)

-- ---- comments

-- the octets to the line's end, and what is left
comment_cut : (rest : List ℕ) → IsComment (take (line_len rest) rest) (drop (line_len rest) rest)
comment_cut [] = (tt, tt)
comment_cut (c ∷ rest) =
    let in_line : ℕ → Bool = λ k. not (k == 10) in
    let Cut : ℕ → Type 0 = λ n. IsComment (take n (c ∷ rest)) (drop n (c ∷ rest)) in
    let len : (b : Bool) → in_line c ≡ b
    → line_len (c ∷ rest) ≡ length (cond b (c ∷ take_while in_line rest) []) =
    λ b is. ap length (take_while-cons in_line c rest)
    ∙ ap (λ more. length (cond more (c ∷ take_while in_line rest) [])) is in
    let cut = comment_cut rest in
    by_test (in_line c)
    (λ more. subst Cut (sym (len true more)) ((more, cut.0), cut.1))
    (λ ends. subst Cut (sym (len false ends)) (tt, eqb_is c 10 (not-false (c == 10) ends)))

comment_text : (rest : List ℕ)
    → 59 ∷ rest ≡ piece_octets (Comment (take (line_len rest) rest)) ++ drop (line_len rest) rest
comment_text rest = ap (λ left. 59 ∷ left) (sym (take-append-drop (line_len rest) rest))

-- ---- behind the entry

-- how a text ends behind an entry: with it, or by an octet that may not stand there
abbrev EndsTail : List ℕ → Type 0
EndsTail [] = Unit {0}
EndsTail (c ∷ rest) = FaultAfter (c ∷ rest) TrailingTokens

abbrev Tail : List ℕ → Type 0
Tail text = (pieces : List Piece) × (rest : List ℕ) × (text ≡ flat_map piece_octets pieces ++ rest)
    × IsTailRow (EndsTail rest) rest pieces

trailing : (c : ℕ) → is_blank c ≡ false → (c == 10) ≡ false → (c == 59) ≡ false
    → not (is_blank c || (c == 10) || (c == 59)) ≡ true
trailing c not_blank not_line not_semicolon = rw (not_blank, not_line, not_semicolon) refl

tail_of : (n : ℕ) (text : List ℕ) → length text ≤ n → Tail text
tail_of n [] within = ([], [], refl, tt)
tail_of zero (c ∷ rest) within = absurd (omega arith)
tail_of (suc n) (c ∷ rest) within =
    by_test (is_blank c) (λ blank.
    let (pieces, left, is, row) = tail_of n rest (omega arith) in
    (Blank c ∷ pieces, left, spelled_on (Blank c) pieces rest left is, (blank, row))) (λ not_blank.
    by_test (c == 10) (λ line.
    let (pieces, left, is, row) = tail_of n rest (omega arith) in (
      LineEnd ∷ pieces,
      left,
      ap (λ k. k ∷ rest) (eqb_is c 10 line)
          ∙ spelled_on LineEnd pieces rest left is,
      row,
    )) (λ not_line.
    by_test (c == 59) (λ semicolon.
    let text = take (line_len rest) rest in
    let following = drop (line_len rest) rest in
    let (pieces, left, is, row) =
    tail_of n following (omega (arith, length-drop (line_len rest) rest)) in (
      Comment text ∷ pieces,
      left,
      ap (λ k. k ∷ rest) (eqb_is c 59 semicolon) ∙ comment_text rest
          ∙ spelled_on (Comment text) pieces following left is,
      (subst (IsComment text) is (comment_cut rest), row),
    )) (λ not_semicolon.
    ([], c ∷ rest, refl, trailing c not_blank not_line not_semicolon))))

-- ---- within quotes

-- how the symbols of a string end: with its quote, or by a fault
abbrev EndsString : List ℕ → Type 0
EndsString rest = ((following : List ℕ) × (rest ≡ 34 ∷ following))
    ⊎ ((fault : ScanError) × FaultInQuotes rest fault)

abbrev String : List ℕ → Type 0
String text = (symbols : List Written) × (rest : List ℕ)
    × (text ≡ flat_map octet_text symbols ++ rest) × AllByRecursion (IsSymbol is_quotable) symbols
    × EndsString rest

-- one symbol more in front
symbol_on : (symbol : Written) (text : List ℕ) → IsSymbol is_quotable symbol → String text
    → String (octet_text symbol ++ text)
symbol_on symbol text quotable (symbols, rest, is, all_quotable, ends) = (
  symbol ∷ symbols,
  rest,
  ap (λ left. octet_text symbol ++ left) is
      ∙ sym (append_assoc (octet_text symbol) (flat_map octet_text symbols) rest),
  (quotable, all_quotable),
  ends,
)

quotable : (c : ℕ) → (c == 34) ≡ false → is_stray_in_quotes c ≡ false → (c == 92) ≡ false
    → is_quotable c ≡ true
quotable c no_quote not_stray no_backslash = rw (no_quote, not_stray, no_backslash) refl

string_of : (n : ℕ) (text : List ℕ) → length text ≤ n → String text
string_of n [] within = ([], [], refl, tt, inr (OpenQuote, tt))
string_of zero (c ∷ rest) within = absurd (omega arith)
string_of (suc n) (c ∷ rest) within =
    by_test (c == 34)
    (λ quote. ([], c ∷ rest, refl, tt, inl (rest, ap (λ k. k ∷ rest) (eqb_is c 34 quote))))
    (λ no_quote.
    by_test (is_stray_in_quotes c) (λ stray. ([], c ∷ rest, refl, tt, inr (BadSymbol, stray)))
    (λ not_stray.
    by_test (c == 92) (λ backslash.
    let same = eqb_is c 92 backslash in
    elim (escape_or_none rest) [
      | inl (symbol, more, is_symbol, is) ↦
          subst String (sym (ap (λ k. k ∷ rest) same ∙ is))
          (symbol_on symbol more (escape_is_symbol is_quotable symbol is_symbol)
          (string_of n more (omega (arith, behind_escape rest more symbol is))))
      | inr none ↦ ([], c ∷ rest, refl, tt, inr (BadEscape, (same, none)))
    ]) (λ no_backslash.
    symbol_on (Plain c) rest (quotable c no_quote not_stray no_backslash)
    (string_of n rest (omega arith)))))

-- ---- in the entry

-- how the pieces of an entry end: with the text, by a fault, or by a string that is not closed
data Ending : Type 0 where
  Complete : Ending
  Faulty : (fault : ScanError) → Ending
  Unclosed : (symbols : List Written) (after : List ℕ) (fault : ScanError) → Ending

abbrev EndsSo : Ending → List ℕ → Type 0
EndsSo Complete rest = rest ≡ []
EndsSo (Faulty fault) rest = Unit {0}
EndsSo (Unclosed symbols after fault) rest =
    (rest ≡ 34 ∷ flat_map octet_text symbols ++ after)
    × AllByRecursion (IsSymbol is_quotable) symbols × FaultInQuotes after fault

abbrev EndsWithin : Ending → List ℕ → ℕ → Type 0
EndsWithin Complete rest depth = depth ≡ 0
EndsWithin (Faulty fault) rest depth = FaultAt rest fault depth
EndsWithin (Unclosed symbols after fault) rest depth = Unit {0}

abbrev EndsBehind : Ending → List ℕ → Type 0
EndsBehind Complete rest = Unit {0}
EndsBehind (Faulty fault) rest = FaultAfter rest fault
EndsBehind (Unclosed symbols after fault) rest = ⊥

abbrev Row : ℕ → List ℕ → Type 0
Row depth text = (ending : Ending) × (pieces : List Piece) × (rest : List ℕ)
    × (text ≡ flat_map piece_octets pieces ++ rest) × EndsSo ending rest
    × IsPieceRow (EndsWithin ending rest) (EndsBehind ending rest) rest depth pieces

-- what an octet is in an entry
data Kind (c : ℕ) : Type 0 where
  IsBlank : IsTrue (is_blank c) → Kind c
  IsLineEnd : c ≡ 10 → Kind c
  IsSemicolon : c ≡ 59 → Kind c
  IsOpening : c ≡ 40 → Kind c
  IsClosing : c ≡ 41 → Kind c
  IsQuote : c ≡ 34 → Kind c
  IsBackslash : c ≡ 92 → Kind c
  IsStray : IsTrue (is_stray c) → Kind c
  IsBare : IsTrue (is_bare c) → Kind c

kind_of : (c : ℕ) → Kind c
kind_of c =
    by_test (is_blank c) IsBlank (λ not_blank.
    by_test (c == 10) (λ is. IsLineEnd (eqb_is c 10 is)) (λ not_line.
    by_test (c == 59) (λ is. IsSemicolon (eqb_is c 59 is)) (λ not_semicolon.
    by_test (c == 40) (λ is. IsOpening (eqb_is c 40 is)) (λ not_opening.
    by_test (c == 41) (λ is. IsClosing (eqb_is c 41 is)) (λ not_closing.
    by_test (c == 34) (λ is. IsQuote (eqb_is c 34 is)) (λ no_quote.
    by_test (c == 92) (λ is. IsBackslash (eqb_is c 92 is)) (λ no_backslash.
    by_test (is_control c) (λ control. IsStray (rw (control, not_blank, not_line) refl))
    (λ no_control.
    IsBare (rw (
      not_blank,
      not_line,
      not_semicolon,
      not_opening,
      not_closing,
      no_quote,
      no_backslash,
      no_control,
    ) refl)))))))))

-- what is left behind the front is such a row
abbrev Shorter : List ℕ → Type 0
Shorter rest = (depth : ℕ) (text : List ℕ) → length text ≤ length rest → Row depth text

-- the line's end that ends the entry, and what follows it
tail_row : (rest : List ℕ) → Tail rest → Row 0 (10 ∷ rest)
tail_row rest (pieces, [], is, row) =
    (Complete, LineEnd ∷ pieces, [], spelled_on LineEnd pieces rest [] is, refl, row)
tail_row rest (pieces, c ∷ left, is, row) = (
  Faulty TrailingTokens,
  LineEnd ∷ pieces,
  c ∷ left,
  spelled_on LineEnd pieces rest
      (c ∷ left) is,
  tt,
  row,
)

line_row : (depth : ℕ) (rest : List ℕ) → Shorter rest → Row depth (10 ∷ rest)
line_row zero rest shorter = tail_row rest (tail_of (length rest) rest (omega arith))
line_row (suc depth) rest shorter =
    let (ending, pieces, left, is, ends, row) = shorter (suc depth) rest (omega arith) in
    (ending, LineEnd ∷ pieces, left, spelled_on LineEnd pieces rest left is, ends, row)

comment_row : (depth : ℕ) (rest : List ℕ) → Shorter rest → Row depth (59 ∷ rest)
comment_row depth rest shorter =
    let text = take (line_len rest) rest in
    let following = drop (line_len rest) rest in
    let (ending, pieces, left, is, ends, row) =
    shorter depth following (omega (arith, length-drop (line_len rest) rest)) in (
      ending,
      Comment text ∷ pieces,
      left,
      comment_text rest ∙ spelled_on (Comment text) pieces following left is,
      ends,
      (subst (IsComment text) is (comment_cut rest), row),
    )

closing_row : (depth : ℕ) (rest : List ℕ) → Shorter rest → Row depth (41 ∷ rest)
closing_row zero rest shorter = (Faulty BadBracket, [], 41 ∷ rest, refl, tt, (refl, refl))
closing_row (suc depth) rest shorter =
    let (ending, pieces, left, is, ends, row) = shorter depth rest (omega arith) in
    (ending, Closing ∷ pieces, left, spelled_on Closing pieces rest left is, ends, row)

-- a closed string, and what follows it
string_text : (symbols : List Written) (following : List ℕ)
    → 34 ∷ flat_map octet_text symbols ++ 34 ∷ following
    ≡ piece_octets (Quoted symbols) ++ following
string_text symbols following =
    ap (λ left. 34 ∷ left) (sym (append_assoc (flat_map octet_text symbols) (34 ∷ []) following))

string_row : (depth : ℕ) (rest : List ℕ) → Shorter rest → String rest → Row depth (34 ∷ rest)
string_row depth rest shorter (symbols, left, is, all_quotable, inl (following, closes)) =
    let text = ap (λ end. 34 ∷ end) (is ∙ ap (λ end. flat_map octet_text symbols ++ end) closes)
    ∙ string_text symbols following in
    let (ending, pieces, last, follows, ends, row) =
    shorter depth following
    (omega (arith, ap length text, length-append (piece_octets (Quoted symbols)) following)) in (
      ending,
      Quoted symbols ∷ pieces,
      last,
      text
          ∙ spelled_on (Quoted symbols) pieces following last follows,
      ends,
      (all_quotable, row),
    )
string_row depth rest shorter (symbols, left, is, all_quotable, inr (fault, has)) = (
  Unclosed symbols left fault,
  [],
  34
      ∷ rest,
  refl,
  (ap (λ end. 34 ∷ end) is, all_quotable, has),
  tt,
)

backslash_row : (depth : ℕ) (rest : List ℕ) → Shorter rest → Row depth (92 ∷ rest)
backslash_row depth rest shorter = elim (escape_or_none rest) [
  | inl (symbol, more, is_symbol, is) ↦
      let (ending, pieces, left, is', ends, row) =
      shorter depth more (behind_escape rest more symbol is) in (
        ending,
        Bare symbol ∷ pieces,
        left,
        is
            ∙ spelled_on (Bare symbol) pieces more left is',
        ends,
        (escape_is_symbol is_bare symbol is_symbol, row),
      )
  | inr none ↦ (Faulty BadEscape, [], 92 ∷ rest, refl, tt, (refl, none))
]

front_row : (depth c : ℕ) (rest : List ℕ) → Shorter rest → Kind c → Row depth (c ∷ rest)
front_row depth c rest shorter (IsBlank blank) =
    let (ending, pieces, left, is, ends, row) = shorter depth rest (omega arith) in
    (ending, Blank c ∷ pieces, left, spelled_on (Blank c) pieces rest left is, ends, (blank, row))
front_row depth c rest shorter (IsLineEnd same) =
    subst (λ k. Row depth (k ∷ rest)) (sym same) (line_row depth rest shorter)
front_row depth c rest shorter (IsSemicolon same) =
    subst (λ k. Row depth (k ∷ rest)) (sym same) (comment_row depth rest shorter)
front_row depth c rest shorter (IsOpening same) =
    let (ending, pieces, left, is, ends, row) = shorter (suc depth) rest (omega arith) in (
      ending,
      Opening ∷ pieces,
      left,
      ap (λ k. k ∷ rest) same
          ∙ spelled_on Opening pieces rest left is,
      ends,
      row,
    )
front_row depth c rest shorter (IsClosing same) =
    subst (λ k. Row depth (k ∷ rest)) (sym same) (closing_row depth rest shorter)
front_row depth c rest shorter (IsQuote same) =
    subst (λ k. Row depth (k ∷ rest)) (sym same)
    (string_row depth rest shorter (string_of (length rest) rest (omega arith)))
front_row depth c rest shorter (IsBackslash same) =
    subst (λ k. Row depth (k ∷ rest)) (sym same) (backslash_row depth rest shorter)
front_row depth c rest shorter (IsStray stray) = (Faulty BadSymbol, [], c ∷ rest, refl, tt, stray)
front_row depth c rest shorter (IsBare bare) =
    let (ending, pieces, left, is, ends, row) = shorter depth rest (omega arith) in (
      ending,
      Bare (Plain c) ∷ pieces,
      left,
      spelled_on (Bare (Plain c)) pieces rest left is,
      ends,
      (bare, row),
    )

row_of : (n : ℕ) (text : List ℕ) → length text ≤ n → (depth : ℕ) → Row depth text
row_of n [] within zero = (Complete, [], [], refl, refl, refl)
row_of n [] within (suc depth) = (Faulty BadBracket, [], [], refl, tt, omega arith)
row_of zero (c ∷ rest) within depth = absurd (omega arith)
row_of (suc n) (c ∷ rest) within depth =
    front_row depth c rest (λ depth' text shorter. row_of n text (omega arith) depth') (kind_of c)

-- ---- whole texts

abbrev EntryOrFault : List ℕ → Type 0
EntryOrFault text =
    ((pieces : List Piece) × IsEntry 0 pieces × (text ≡ flat_map piece_octets pieces))
    ⊎ ((fault : ScanError) × HasFault 0 text fault)

by_row : (text : List ℕ) → Row 0 text → EntryOrFault text
by_row text (Complete, pieces, rest, is, ends, row) =
    inl (
      pieces,
      subst (λ left. IsPieceRow (λ depth. depth ≡ 0) (Unit {0}) left 0 pieces) ends row,
      is ∙ ap (λ left. flat_map piece_octets pieces ++ left) ends
          ∙ append-nil (flat_map piece_octets pieces),
    )
by_row text (Faulty fault, pieces, rest, is, ends, row) = inr (fault, (pieces, rest, is, inl row))
by_row text (Unclosed symbols after fault, pieces, rest, is, ends, row) =
    inr (fault, (pieces, rest, is, inr (symbols, after, ends.0, ends.1, ends.2, row)))

-- a text is an entry, or has a fault
entry_or_fault : (text : List ℕ) → EntryOrFault text
entry_or_fault text = by_row text (row_of (length text) text (omega arith) 0)

pub tokens_found : (text : List ℕ) → text_fault text ≡ None → HasTokens text (tokens_in text)
tokens_found text none = elim (entry_or_fault text) [
  | inl (pieces, row, is) ↦
      (pieces, row, is, (has_tokens text (tokens_of pieces) (pieces, row, is, refl)).1)
  | inr (fault, has) ↦ let found = has_fault text fault has in absurd cc
]

pub fault_found : (text : List ℕ) (fault : ScanError) → text_fault text ≡ Some fault
    → HasFault 0 text fault
fault_found text fault found = elim (entry_or_fault text) [
  | inl (pieces, row, is) ↦ let read =
      (has_tokens text (tokens_of pieces) (pieces, row, is, refl)).0 in absurd cc
  | inr (other, has) ↦ let found_other = has_fault text other has
      in subst (HasFault 0 text) (cc) has
]
