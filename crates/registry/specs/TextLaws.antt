-- What is printed is read back, and std's `parse` reads number texts. Offered to the crates above:
-- `spelled_number-decimal`, `spelled_number-octet` and `parsed_text`.
use Rattle.std.proofs.Common.{◌≡◌, ℕ, ◌^◌, ◌<◌, List, [], ◌∷◌, true, false, cond, Some, None, Result, Ok, Err, refl, sym, ap, ◌∙◌, arith}
use Rattle.std.specs.Prelude.{nat_lt, ◌&&◌}
use Rattle.std.specs.Result.{OkIff, result_ok}
use Rattle.std.specs.Fmt.{decimal}
use Rattle.std.specs.Str.{all_ascii_digits}
use Rattle.std.specs.Str.Parse.{IsNumeral, digits_value, without_leading_plus, ParsesUnsigned}
use Rattle.std.proofs.lemmas.Bool.{and_parts}
use Rattle.std.proofs.lemmas.Bool.Decides.{nat_tests}
use Rattle.std.proofs.lemmas.Str.Parse.{IsNumeralModel, numerals_by_value, tells_all_ascii_digits, not_in_digits, without_leading_plus_none}
use Rattle.std.proofs.lemmas.Fmt.{decimal_is_IsNumeral}
use Rattle.registry.specs.Texts.{is_numeral, numeral_below, spelled_number}

-- ASCII digits and their value, in std's words
own : IsNumeralModel (λ ds. all_ascii_digits ds ≡ true) (digits_value 10)
own = numerals_by_value _ tells_all_ascii_digits

-- the test is true of one or more digits
pub is_numeral-true : (ds : List ℕ) → IsNumeral 10 ds → is_numeral ds ≡ true
is_numeral-true [] h = absurd (omega (arith, h.0))
is_numeral-true (d ∷ ds) h = own.from (d ∷ ds) h.1

-- and of nothing else
pub numeral_from : (ds : List ℕ) → is_numeral ds ≡ true → IsNumeral 10 ds
numeral_from [] e = cc
numeral_from (d ∷ ds) e = (omega arith, own.to (d ∷ ds) e)

-- digits with a value below a bound
pub numeral_below-some : (bound n : ℕ) (ds : List ℕ) → IsNumeral 10 ds → digits_value 10 ds ≡ n
    → n < bound → numeral_below bound ds ≡ Some n
numeral_below-some bound n ds is e lt =
    let below : nat_lt (digits_value 10 ds) bound ≡ true = grind (arith, nat_tests) in
    rw (is_numeral-true ds is, below) (ap Some e)

-- the digits of a number have no sign
plain_decimal : (n : ℕ) → n < 2 ^ 64 → without_leading_plus (decimal n) ≡ decimal n
plain_decimal n small =
    let is = (decimal_is_IsNumeral n small).0 in
    without_leading_plus_none (decimal n)
    (not_in_digits own (decimal n) 43 (own.from (decimal n) is.1)
    (λ h. omega (arith, h)) 0 is.0)

-- a printed number is read back
pub spelled_number-decimal : (bound n : ℕ) → n < bound → n < 2 ^ 64
    → spelled_number bound (decimal n) ≡ Some n
spelled_number-decimal bound n lt small =
    let is = decimal_is_IsNumeral n small in
    ap (numeral_below bound) (plain_decimal n small)
    ∙ numeral_below-some bound n (decimal n) is.0 is.1 lt

-- the same of a number of one octet
pub spelled_number-octet : (n : ℕ) → n < 256 → spelled_number 256 (decimal n) ≡ Some n
spelled_number-octet n below = spelled_number-decimal 256 n below (omega arith)

-- what std's `parse` gives for digits
read_digits : {E : Type 0} (k : ℕ) (ds : List ℕ) (r : Result ℕ E)
    → OkIff r (IsNumeral 10 ds × (digits_value 10 ds < 2 ^ k)) (digits_value 10 ds)
    → result_ok r ≡ numeral_below (2 ^ k) ds
read_digits k ds (Ok x) h = let e : x ≡ digits_value 10 ds = h.1
    in sym (numeral_below-some (2 ^ k) x ds h.0.0 (sym e) (rw e h.0.1))
read_digits k ds (Err e) h =
    elim (is_numeral ds && nat_lt (digits_value 10 ds) (2 ^ k)) as
    (λ t. (is_numeral ds && nat_lt (digits_value 10 ds) (2 ^ k)) ≡ t
    → None ≡ cond t (Some (digits_value 10 ds)) None) [
      | false ↦ λ e. refl
      | true ↦ λ e.
          let parts = and_parts (is_numeral ds) (nat_lt (digits_value 10 ds) (2 ^ k)) e in
          let below : nat_lt (digits_value 10 ds) (2 ^ k) ≡ true = parts.1 in
          let lt : digits_value 10 ds < 2 ^ k = grind (arith, nat_tests) in
          absurd (h (numeral_from ds parts.0, lt))
    ] refl

-- what std's `parse` gives for a text
pub parsed_text : {E : Type 0} (k : ℕ) (text : List ℕ) (r : Result ℕ E)
    → ParsesUnsigned k 10 text r → result_ok r ≡ spelled_number (2 ^ k) text
parsed_text k text r h = read_digits k (without_leading_plus text) r h
