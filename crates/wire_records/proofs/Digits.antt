-- Octets in base16, chunk by chunk.
use Rattle.std.proofs.Common.{◌≡◌, ℕ, ◌/◌, ◌%◌, ◌*◌, Bool, true, false, cond, ◌&&◌, List, [], ◌∷◌, ◌++◌, take, length, slice_index, refl, sym, ap, ◌∙◌}
use Rattle.std.specs.Prelude.{nat_lt}
use Rattle.std.specs.Str.{IsAscii, IsUtf8}
use Rattle.std.proofs.lemmas.Bool.{and_parts}
use Rattle.std.proofs.lemmas.List.{take_at}
use Rattle.std.proofs.lemmas.Str.{IsUtf8-from_ascii}
use Rattle.std.proofs.lemmas.Str.Ascii.{IsAscii-nil, IsAscii-cons}
use borrow.Author.Tests.{ltb-true}
use Rattle.hex.specs.Hex.{encode_with, lower_digits, upper_digits}
use Rattle.hex.proofs.HexLemmas.{length-encode_with, IsAscii-encode_with}
use Rattle.wire_records.specs.Texts.{base16_in}

-- base16 by its table
pub by_table : (up : Bool) (octets : List ℕ)
    → encode_with (cond up upper_digits lower_digits) octets ≡ base16_in up octets
by_table true octets = refl
by_table false octets = refl

-- the digits of octets, and of others behind them
encode_with-append : (t xs ys : List ℕ)
    → encode_with t (xs ++ ys) ≡ encode_with t xs ++ encode_with t ys
unfolding encode_with
encode_with-append t [] ys = refl
encode_with-append t (x ∷ xs) ys =
    ap (λ (rest : List ℕ). slice_index t (x / 16) ∷ slice_index t (x % 16) ∷ rest)
    (encode_with-append t xs ys)

pub base16_in-append : (up : Bool) (xs ys : List ℕ)
    → base16_in up xs ++ base16_in up ys ≡ base16_in up (xs ++ ys)
base16_in-append true xs ys = sym (encode_with-append upper_digits xs ys)
base16_in-append false xs ys = sym (encode_with-append lower_digits xs ys)

-- no octets have no digits
pub base16_in-nil : (up : Bool) → base16_in up [] ≡ []
unfolding encode_with
base16_in-nil true = refl
base16_in-nil false = refl

-- two digits for each octet
pub length-base16_in : (up : Bool) (octets : List ℕ)
    → length (base16_in up octets) ≡ 2 * length octets
length-base16_in true octets = length-encode_with upper_digits octets
length-base16_in false octets = length-encode_with lower_digits octets

-- the test of a table, which computes
abbrev all_ascii : List ℕ → Bool
all_ascii [] = true
all_ascii (c ∷ rest) = nat_lt c 128 && all_ascii rest

IsAscii-from_test : (t : List ℕ) → all_ascii t ≡ true → IsAscii t
IsAscii-from_test [] test = IsAscii-nil
IsAscii-from_test (c ∷ rest) test =
    let parts = and_parts (nat_lt c 128) (all_ascii rest) test in
    IsAscii-cons c rest (ltb-true c 128 parts.0) (IsAscii-from_test rest parts.1)

IsAscii-base16_in : (up : Bool) (octets : List ℕ) → IsAscii (base16_in up octets)
IsAscii-base16_in true octets =
    IsAscii-encode_with upper_digits octets (IsAscii-from_test upper_digits refl)
IsAscii-base16_in false octets =
    IsAscii-encode_with lower_digits octets (IsAscii-from_test lower_digits refl)

-- the digits stand at the front of the buffer
pub front_digits : (up : Bool) (octets digits rest : List ℕ)
    → digits ≡ encode_with (cond up upper_digits lower_digits) octets
    → take (2 * length octets) (digits ++ rest) ≡ base16_in up octets
front_digits up octets digits rest are =
    let all = are ∙ by_table up octets in
    take_at digits rest (2 * length octets) (ap length all ∙ length-base16_in up octets) ∙ all

-- and are a text
pub front_text : (up : Bool) (octets digits rest : List ℕ)
    → digits ≡ encode_with (cond up upper_digits lower_digits) octets
    → IsUtf8 (take (2 * length octets) (digits ++ rest))
front_text up octets digits rest are =
    rw (front_digits up octets digits rest are)
    (IsUtf8-from_ascii (base16_in up octets) (IsAscii-base16_in up octets))
