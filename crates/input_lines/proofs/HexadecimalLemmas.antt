-- Facts on octets that are decoded pair by pair, as far as it matters whether they are and not why.
use Rattle.std.proofs.Common.{◌≡◌, ℕ, zero, suc, ◌+◌, ◌*◌, ◌<◌, Bool, true, ◌&&◌, ◌==◌, List, [], ◌∷◌, length, take, drop, slice_index, Option, Some, None, unwrap_or, Result, Ok, Err, refl, sym, ap, ◌∙◌, arith}
use Rattle.std.specs.Result.{result_ok}
use Rattle.std.proofs.lemmas.Bool.{and_parts, eqb-true}
use Rattle.hex.specs.Hex.{decode_pairs, hex_digit_value, pair_value}
use Rattle.hex.specs.declared.error.FromHexError.{FromHexError}
use Rattle.hex.proofs.HexLemmas.{decode_of-even}
use Rattle.hex.proofs.Pairs.{prepend, decode_err}
use Rattle.input_lines.specs.declared.hexadecimal.TheConstants.{DIGIT_VALUES}
use Rattle.input_lines.specs.Hexadecimal.{hexadecimal_octets}

-- digits of an even count are decoded pair by pair
pub even_octets : (digits : List ℕ) (count : ℕ) → length digits ≡ 2 * count
    → hexadecimal_octets digits ≡ result_ok (decode_pairs 0 digits)
even_octets digits count even = ap result_ok (decode_of-even digits (omega (arith, even)))

-- a pair that is read
pub read_pair : (pair : Result ℕ FromHexError) (octet : ℕ) → result_ok pair ≡ Some octet
    → pair ≡ Ok octet
read_pair (Ok other) octet is = ap (λ (o : Option ℕ). elim o [ Some x ↦ Ok x | None ↦ Ok other ]) is
read_pair (Err fault) octet is = absurd cc

-- a pair that isn't: then no octets are
pub refused_pair : (digits octets : List ℕ) (i : ℕ) (pair : Result ℕ FromHexError)
    → 2 * i + 1 < length digits
    → pair ≡ pair_value (slice_index digits (2 * i)) (slice_index digits (2 * i + 1)) (2 * i)
    → result_ok pair ≡ None
    → decode_pairs 0 digits
    ≡ prepend (take i octets) (decode_pairs (2 * i) (drop (2 * i) digits))
    → result_ok (decode_pairs 0 digits) ≡ None
refused_pair digits octets i (Ok octet) within same none read = absurd cc
refused_pair digits octets i (Err fault) within same none read =
    ap result_ok (decode_err digits octets i fault within (sym same) read)

-- ---- the table of digits

-- what the table has for an octet
abbrev pub in_table : ℕ → ℕ
in_table c = unwrap_or (hex_digit_value c) 255

-- the test of a table from an octet on, which computes
abbrev is_table : List ℕ → ℕ → Bool
is_table [] c = true
is_table (value ∷ values) c = (value == in_table c) && is_table values (c + 1)

is_table-at : (values : List ℕ) (c i : ℕ) → is_table values c ≡ true → i < length values
    → slice_index values i ≡ in_table (c + i)
is_table-at [] c i test within = absurd (omega arith)
is_table-at (value ∷ values) c zero test within =
    let parts = and_parts (value == in_table c) (is_table values (c + 1)) test in
    let same : c ≡ c + 0 = omega arith in
    eqb-true value (in_table c) parts.0 ∙ ap in_table same
is_table-at (value ∷ values) c (suc i) test within =
    let parts = and_parts (value == in_table c) (is_table values (c + 1)) test in
    let next : c + 1 + i ≡ c + suc i = omega arith in
    is_table-at values (c + 1) i parts.1 (omega arith) ∙ ap in_table next

-- the table has the value of each digit
pub table_value : (c : ℕ) → c < 256 → slice_index DIGIT_VALUES.now c ≡ in_table c
table_value c small =
    let from_0 : 0 + c ≡ c = omega arith in
    is_table-at DIGIT_VALUES.now 0 c refl small ∙ ap in_table from_0

-- no digits give no octets
pub no_octets : (text octets : List ℕ) → length text ≡ 0 → octets ≡ []
    → Some octets ≡ hexadecimal_octets text
unfolding decode_pairs
no_octets [] octets none is = ap Some is
no_octets (c ∷ text) octets none is = absurd (omega (arith, none))
