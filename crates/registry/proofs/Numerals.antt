-- A number text is UTF-8. Offered to the crates above: `no_text`.
use Rattle.std.proofs.Common.{◌≡◌, ℕ, ◌<◌, List, [], ◌∷◌, Bool, true, false, cond, Some, None, refl, drop, arith}
use Rattle.std.specs.Prelude.{nat_lt, ◌&&◌, ◌==◌}
use Rattle.std.specs.Str.{IsAscii, IsUtf8}
use Rattle.std.specs.Str.Parse.{IsNumeral, AllDigits, digits_value, without_leading_plus}
use Rattle.std.proofs.lemmas.Bool.{and_parts}
use Rattle.std.proofs.lemmas.Bool.Decides.{nat_tests}
use Rattle.std.proofs.lemmas.Str.{IsUtf8-from_ascii}
use Rattle.std.proofs.lemmas.Str.Ascii.{IsAscii-nil, IsAscii-cons}
use Rattle.std.proofs.lemmas.Fmt.{IsAscii-from_digits}
use Rattle.registry.specs.Texts.{is_numeral, spelled_number}
use Rattle.registry.specs.TextLaws.{numeral_from}

-- digits, and a sign before them, are ASCII
numeral_ascii : (c : ℕ) (cs : List ℕ) (b : Bool) → (c == 43) ≡ b
    → AllDigits 10 (drop (cond b 1 0) (c ∷ cs)) → IsAscii (c ∷ cs)
numeral_ascii c cs true e h = let small : c < 128 = grind (arith, nat_tests)
    in IsAscii-cons c cs small (IsAscii-from_digits cs h)
numeral_ascii c cs false e h = IsAscii-from_digits (c ∷ cs) h

-- so a number text is UTF-8
numeral_utf8 : (text : List ℕ) → IsNumeral 10 (without_leading_plus text) → IsUtf8 text
numeral_utf8 [] h = IsUtf8-from_ascii [] IsAscii-nil
numeral_utf8 (c ∷ cs) h = IsUtf8-from_ascii (c ∷ cs) (numeral_ascii c cs (c == 43) refl h.1)

-- other than UTF-8 is no number text
pub no_text : (bound : ℕ) (text : List ℕ) → (IsUtf8 text → ⊥) → None ≡ spelled_number bound text
no_text bound text h =
    let ds = without_leading_plus text in
    elim (is_numeral ds && nat_lt (digits_value 10 ds) bound) as
    (λ t. (is_numeral ds && nat_lt (digits_value 10 ds) bound) ≡ t
    → None ≡ cond t (Some (digits_value 10 ds)) None) [
      | false ↦ λ e. refl
      | true ↦ λ e. absurd
          (h (numeral_utf8 text
          (numeral_from ds (and_parts (is_numeral ds) (nat_lt (digits_value 10 ds) bound) e).0)))
    ] refl
