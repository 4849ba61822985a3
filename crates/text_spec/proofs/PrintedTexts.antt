-- Rows of symbols that stand bare are the text of one token, and printed octets are such rows.
-- Offered to the crates above: `token_text-bare`, `bare-printed`, `bare-printed_in_name`,
-- `octet-printed`, `token_text-printed`, `octets_of-printed`, `marker_again` and `not_marker`.
use Rattle.std.proofs.Common.{◌≡◌, ℕ, ◌<◌, Bool, true, false, cond, ◌&&◌, Some, List, [], ◌∷◌, ◌++◌, map, codes, inl, inr, refl, sym, ap, ◌∙◌, append_assoc, append-nil, arith}
use Rattle.std.proofs.lemmas.Bool.{cases_eq, ne_eqb}
use Rattle.std.proofs.lemmas.Bool.Decides.{nat_tests}
use Rattle.std.specs.List.{flat_map, AllByRecursion}
use Rattle.name_spec.specs.Printed.{Written, Plain, Escaped, Decimal, octet_text, is_special, is_special_in_name, is_visible, printed_as, printed_octet, printed_octets}
use Rattle.name_spec.specs.AddressLaws.{AreOctets}
use Rattle.text_spec.specs.declared.lexeme.Symbol.{Symbol}
use Rattle.text_spec.specs.Pieces.{Piece, Bare, symbol_of, piece_octets, is_bare, is_escapable, IsSymbol, AreParts, lexemes_of, token_groups, tokens_of, IsTokenText}
use Rattle.text_spec.specs.Scanning.{octets_of, is_marker}

-- ---- symbols that stand bare

abbrev pub bare_pieces : List Written → List Piece
bare_pieces symbols = map Bare symbols

abbrev pub AreBare : List Written → Type 0
AreBare symbols = AllByRecursion (IsSymbol is_bare) symbols

pub AreBare-append : (front behind : List Written) → AreBare front → AreBare behind
    → AreBare (front ++ behind)
AreBare-append [] behind f b = b
AreBare-append (symbol ∷ front) behind f b = (f.0, AreBare-append front behind f.1 b)

pub AreParts-bare : (symbols : List Written) → AreBare symbols → AreParts (bare_pieces symbols)
AreParts-bare [] h = tt
AreParts-bare (symbol ∷ symbols) h = (h.0, AreParts-bare symbols h.1)

pub spelled-bare : (symbols : List Written)
    → flat_map piece_octets (bare_pieces symbols) ≡ flat_map octet_text symbols
spelled-bare [] = refl
spelled-bare (symbol ∷ symbols) = ap (λ (t : List ℕ). octet_text symbol ++ t) (spelled-bare symbols)

-- they are added to the token so far
grouped-bare : (token : List Symbol) (symbols : List Written)
    → token_groups (Some token) (flat_map lexemes_of (bare_pieces symbols))
    ≡ (token ++ map symbol_of symbols) ∷ []
grouped-bare token [] = ap (λ (t : List Symbol). t ∷ []) (sym (append-nil token))
grouped-bare token (symbol ∷ symbols) =
    grouped-bare (token ++ symbol_of symbol ∷ []) symbols
    ∙ ap (λ (t : List Symbol). t ∷ [])
    (append_assoc token (symbol_of symbol ∷ []) (map symbol_of symbols))

pub tokens_of-bare : (symbol : Written) (symbols : List Written)
    → tokens_of (bare_pieces (symbol ∷ symbols)) ≡ map symbol_of (symbol ∷ symbols) ∷ []
tokens_of-bare symbol symbols = grouped-bare (symbol_of symbol ∷ []) symbols

-- symbols that stand bare, at least one, are wholly one token
pub token_text-bare : (symbol : Written) (symbols : List Written) → AreBare (symbol ∷ symbols)
    → IsTokenText (flat_map octet_text (symbol ∷ symbols)) (map symbol_of (symbol ∷ symbols))
token_text-bare symbol symbols h = (
  bare_pieces (symbol ∷ symbols),
  AreParts-bare (symbol ∷ symbols) h,
  sym
      (spelled-bare (symbol ∷ symbols)),
  tokens_of-bare symbol symbols,
)

-- ---- printed octets

-- the octet that was printed is the symbol's
pub octet-printed : (special : ℕ → Bool) (c : ℕ) → (symbol_of (printed_as special c)).octet ≡ c
unfolding printed_as
octet-printed special c =
    elim (special c) as
    (λ b. (symbol_of (cond b (Escaped c) (cond (is_visible c) (Plain c) (Decimal c)))).octet
    ≡ c) [
      | true ↦ refl
      | false ↦ elim (is_visible c) as (λ b. (symbol_of (cond b (Plain c) (Decimal c))).octet ≡ c)
          [ true ↦ refl | false ↦ refl ]
    ]

bare-visible : (c : ℕ) → is_special c ≡ false → is_visible c ≡ true → is_bare c ≡ true
bare-visible c s p = grind (arith, nat_tests)

bare-visible_in_name : (c : ℕ) → is_special_in_name c ≡ false → is_visible c ≡ true
    → is_bare c ≡ true
bare-visible_in_name c s p = grind (arith, nat_tests)

escapable-special : (c : ℕ) → is_special c ≡ true → is_escapable c ≡ true
escapable-special c s = grind (arith, nat_tests)

escapable-special_in_name : (c : ℕ) → is_special_in_name c ≡ true → is_escapable c ≡ true
escapable-special_in_name c s = grind (arith, nat_tests)

bare_by_tests : (c : ℕ) (special visible : Bool) → (special ≡ true → is_escapable c ≡ true)
    → (special ≡ false → visible ≡ true → is_bare c ≡ true) → c < 256
    → IsSymbol is_bare (cond special (Escaped c) (cond visible (Plain c) (Decimal c)))
bare_by_tests c true visible s p fits = s refl
bare_by_tests c false true s p fits = p refl refl
bare_by_tests c false false s p fits = fits

pub bare-printed : (c : ℕ) → c < 256 → IsSymbol is_bare (printed_as is_special c)
unfolding printed_as
bare-printed c fits =
    bare_by_tests c (is_special c) (is_visible c) (escapable-special c) (bare-visible c) fits

pub bare-printed_in_name : (c : ℕ) → c < 256 → IsSymbol is_bare (printed_as is_special_in_name c)
unfolding printed_as
bare-printed_in_name c fits =
    bare_by_tests c (is_special_in_name c) (is_visible c) (escapable-special_in_name c)
    (bare-visible_in_name c) fits

-- how octets are written, where some stand behind a backslash
abbrev pub written_as : (ℕ → Bool) → List ℕ → List Written
written_as special octets = map (printed_as special) octets

pub written-printed : (special : ℕ → Bool) (octets : List ℕ)
    → flat_map octet_text (written_as special octets) ≡ flat_map (printed_octet special) octets
written-printed special [] = refl
written-printed special (c ∷ octets) =
    ap (λ (t : List ℕ). printed_octet special c ++ t) (written-printed special octets)

-- the octets that were printed are those of the symbols
pub octets_of-printed : (special : ℕ → Bool) (octets : List ℕ)
    → octets_of (map symbol_of (written_as special octets)) ≡ octets
octets_of-printed special [] = refl
octets_of-printed special (c ∷ octets) =
    rw (octet-printed special c) (ap (λ (t : List ℕ). c ∷ t) (octets_of-printed special octets))

pub AreBare-printed : (octets : List ℕ) → AreOctets octets → AreBare (written_as is_special octets)
AreBare-printed [] h = tt
AreBare-printed (c ∷ octets) h = (bare-printed c h.0, AreBare-printed octets h.1)

pub AreBare-printed_in_name : (octets : List ℕ) → AreOctets octets
    → AreBare (written_as is_special_in_name octets)
AreBare-printed_in_name [] h = tt
AreBare-printed_in_name (c ∷ octets) h =
    (bare-printed_in_name c h.0, AreBare-printed_in_name octets h.1)

-- the token of printed octets
abbrev pub printed_token : List ℕ → List Symbol
printed_token octets = map symbol_of (written_as is_special octets)

pub token_text-printed : (c : ℕ) (octets : List ℕ) → AreOctets (c ∷ octets)
    → IsTokenText (printed_octets (c ∷ octets)) (printed_token (c ∷ octets))
token_text-printed c octets h =
    rw (← written-printed is_special (c ∷ octets))
    (token_text-bare (printed_as is_special c) (written_as is_special octets)
    (AreBare-printed (c ∷ octets) h))

-- printed octets are read back
pub octets_again : (c : ℕ) (octets : List ℕ) → AreOctets (c ∷ octets)
    → (token : List Symbol) × IsTokenText (printed_octets (c ∷ octets)) token
    × (octets_of token ≡ c ∷ octets)
octets_again c octets h = (
  printed_token (c ∷ octets),
  token_text-printed c octets h,
  octets_of-printed is_special
      (c ∷ octets),
)

-- ---- the marker of data of any type

and_false : (b : Bool) → (b && false) ≡ false
and_false true = refl
and_false false = refl

-- it is read back
pub marker_again : (token : List Symbol) × IsTokenText (codes "\\#") token
    × (is_marker token ≡ true)
marker_again = (symbol_of (Escaped 35) ∷ [], token_text-bare (Escaped 35) [] (refl, tt), refl)

-- no other octets are it
pub not_marker : (token : List Symbol) → (octets_of token ≡ 35 ∷ [] → ⊥) → is_marker token ≡ false
not_marker [] h = refl
not_marker (symbol ∷ []) h = elim (cases_eq symbol.octet 35) [
  | inl same ↦ absurd (h (ap (λ c. c ∷ []) same))
  | inr other ↦ rw (ne_eqb symbol.octet 35 other) (and_false symbol.escaped)
]
not_marker (symbol ∷ next ∷ symbols) h = refl
