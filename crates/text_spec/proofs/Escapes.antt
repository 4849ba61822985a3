-- Which octets behind a backslash are an escape.
use Rattle.std.proofs.Common.{◌≡◌, ℕ, ◌+◌, ◌/◌, ◌%◌, ◌<◌, true, false, ◌&&◌, Option, Some, None, List, [], ◌∷◌, ◌++◌, refl, ap, ◌∙◌, inl, inr, arith}
use Rattle.std.specs.Prelude.{nat_le, ◌⊎◌}
use Rattle.std.proofs.lemmas.Bool.{cases_Bool}
use Rattle.std.proofs.lemmas.Bool.Decides.{nat_tests}
use Rattle.std.specs.Char.{is_ascii_digit}
use Rattle.name_spec.specs.Printed.{Written, Plain, Escaped, Decimal, octet_text}
use Rattle.text_spec.specs.Lexing.{three_digits, decimal_of, escape_of}
use Rattle.text_spec.specs.Pieces.{is_escapable, IsSymbol, NoEscape}

-- ---- what is written as an escape is read as one

pub escape_of-escaped : (c : ℕ) (rest : List ℕ) → is_escapable c ≡ true
    → escape_of (c ∷ rest) ≡ Some (c, 1)
escape_of-escaped c rest escapable = grind (arith, nat_tests)

-- the digits of an octet
abbrev pub decimal_digits : ℕ → List ℕ
decimal_digits c = (48 + c / 100) ∷ (48 + c / 10 % 10) ∷ (48 + c % 10) ∷ []

pub escape_of-decimal : (c : ℕ) (rest : List ℕ) → c < 256
    → escape_of (decimal_digits c ++ rest) ≡ Some (c, 3)
escape_of-decimal c rest octet = grind (arith, nat_tests)

-- ---- what is read as an escape is written as one

-- behind a backslash stand these octets, and an escape begins there
abbrev pub Escape : List ℕ → Type 0
Escape rest = (symbol : Written) × (more : List ℕ) × IsSymbol (λ _. false) symbol
    × (92 ∷ rest ≡ octet_text symbol ++ more)

digits_back : (a b c : ℕ)
    → (is_ascii_digit a && is_ascii_digit b && is_ascii_digit c && nat_le (three_digits a b c) 255)
    ≡ true
    → (48 + three_digits a b c / 100 ≡ a) × (48 + three_digits a b c / 10 % 10 ≡ b)
    × (48 + three_digits a b c % 10 ≡ c) × (three_digits a b c < 256)
digits_back a b c digits = grind (arith, nat_tests)

are_digits : (a b c : ℕ) (rest : List ℕ) (e : ℕ × ℕ) → decimal_of (a ∷ b ∷ c ∷ rest) ≡ Some e
    → (is_ascii_digit a && is_ascii_digit b && is_ascii_digit c && nat_le (three_digits a b c) 255)
    ≡ true
are_digits a b c rest e is = grind (arith, nat_tests)

decimal_found : (a : ℕ) (rest : List ℕ) (e : ℕ × ℕ) → decimal_of (a ∷ rest) ≡ Some e
    → Escape (a ∷ rest)
decimal_found a [] e is = absurd cc
decimal_found a (b ∷ []) e is = absurd cc
decimal_found a (b ∷ c ∷ rest) e is =
    let back = digits_back a b c (are_digits a b c rest e is) in
    (Decimal (three_digits a b c), rest, back.3, cc)

is_escapable_front : (a : ℕ) (rest : List ℕ) (e : ℕ × ℕ) → is_ascii_digit a ≡ false
    → escape_of (a ∷ rest) ≡ Some e → is_escapable a ≡ true
is_escapable_front a rest e no_digit is = grind (arith, nat_tests)

is_decimal : (a : ℕ) (rest : List ℕ) (e : ℕ × ℕ) → is_ascii_digit a ≡ true
    → escape_of (a ∷ rest) ≡ Some e → decimal_of (a ∷ rest) ≡ Some e
is_decimal a rest e digit is = grind (arith, nat_tests)

escape_found : (rest : List ℕ) (e : ℕ × ℕ) → escape_of rest ≡ Some e → Escape rest
escape_found [] e is = absurd cc
escape_found (a ∷ rest) e is =
    elim (cases_Bool (is_ascii_digit a)) [
      | inl digit ↦ decimal_found a rest e (is_decimal a rest e digit is)
      | inr no_digit ↦ (Escaped a, rest, is_escapable_front a rest e no_digit is, refl)
    ]

-- where none is read, none is written
no_escape : (rest : List ℕ) → escape_of rest ≡ None → NoEscape rest
no_escape rest none (Plain c) more impossible is = absurd cc
no_escape rest none (Escaped c) more escapable is =
    let same : rest ≡ c ∷ more = cc in
    let read = ap escape_of same ∙ escape_of-escaped c more escapable in
    absurd cc
no_escape rest none (Decimal c) more octet is =
    let same : rest ≡ decimal_digits c ++ more = cc in
    let read = ap escape_of same ∙ escape_of-decimal c more octet in
    absurd cc

-- where none is written, none is read
pub escape_of-none : (rest : List ℕ) → NoEscape rest → escape_of rest ≡ None
escape_of-none rest none = go (escape_of rest) refl
  where
    go : (o : Option (ℕ × ℕ)) → escape_of rest ≡ o → o ≡ None
    go None is = refl
    go (Some e) is = let (symbol, more, is_symbol, text) = escape_found rest e is
        in absurd (none symbol more is_symbol text)

pub escape_or_none : (rest : List ℕ) → Escape rest ⊎ NoEscape rest
escape_or_none rest = go (escape_of rest) refl
  where
    go : (o : Option (ℕ × ℕ)) → escape_of rest ≡ o → Escape rest ⊎ NoEscape rest
    go None is = inr (no_escape rest is)
    go (Some e) is = inl (escape_found rest e is)
