-- The text of octets is empty exactly where they are none.
use Rattle.std.proofs.Common.{◌≡◌, ℕ, ◌==◌, true, false, Bool, cond, List, [], ◌∷◌, ◌++◌, length, refl, sym, ap, ◌∙◌, arith}
use Rattle.std.specs.Str.{is_utf8}
use Rattle.std.proofs.lemmas.Bool.Decides.{nat_tests}
use Rattle.base64.specs.Rfc4648.{encode_symbols}
use Rattle.name_spec.specs.Printed.{Written, Plain, Escaped, Decimal, octet_text, is_special, printed_as, printed_octets}
use Rattle.text_spec.specs.Encodings.{base64_text}
use Rattle.svcb_spec.specs.PrintedValues.{with_text, utf8_or_printed}
use Rattle.svcb_value.specs.Printing.{key_and_text}

-- a text that has octets where these have some
some_octets : (c : ℕ) (text : List ℕ) → (length (c ∷ text) == 0) ≡ false
some_octets c text = grind (arith, nat_tests)

some_written : (w : Written) (text : List ℕ) → (length (octet_text w ++ text) == 0) ≡ false
some_written (Plain c) text = some_octets c text
some_written (Escaped c) text = some_octets 92 (c ∷ text)
some_written (Decimal c) text = grind (arith, nat_tests)

same_test : (octets text : List ℕ) → (length octets == 0) ≡ (length text == 0) → (key : List ℕ)
    → with_text key text ≡ key_and_text key octets text
same_test octets text same key = ap (λ b. cond b key (key ++ 61 ∷ text)) (sym same)

printed_test : (octets : List ℕ) → (length octets == 0) ≡ (length (printed_octets octets) == 0)
printed_test [] = refl
printed_test (c ∷ octets) =
    some_octets c octets ∙ sym (some_written (printed_as is_special c) (printed_octets octets))

utf8_test : (octets : List ℕ) (b : Bool)
    → (length octets == 0) ≡ (length (cond b octets (printed_octets octets)) == 0)
utf8_test octets true = refl
utf8_test octets false = printed_test octets

base64_test : (octets : List ℕ) → (length octets == 0) ≡ (length (base64_text octets) == 0)
unfolding encode_symbols
base64_test [] = refl
base64_test (a ∷ []) = grind (arith, nat_tests)
base64_test (a ∷ b ∷ []) = grind (arith, nat_tests)
base64_test (a ∷ b ∷ c ∷ octets) = grind (arith, nat_tests)

-- a key and printed octets
pub with_printed : (key octets : List ℕ)
    → with_text key (printed_octets octets) ≡ key_and_text key octets (printed_octets octets)
with_printed key octets = same_test octets (printed_octets octets) (printed_test octets) key

-- a key and a text that is UTF-8, else printed octets
pub with_utf8 : (key octets : List ℕ)
    → with_text key (utf8_or_printed octets) ≡ key_and_text key octets (utf8_or_printed octets)
with_utf8 key octets =
    same_test octets (utf8_or_printed octets) (utf8_test octets (is_utf8 octets)) key

-- a key and base64
pub with_base64 : (key octets : List ℕ)
    → with_text key (base64_text octets) ≡ key_and_text key octets (base64_text octets)
with_base64 key octets = same_test octets (base64_text octets) (base64_test octets) key
