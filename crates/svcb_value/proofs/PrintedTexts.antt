-- What is written for octets.
use Rattle.std.proofs.Common.{◌≡◌, ℕ, ◌==◌, Bool, true, false, List, ◌∷◌, ◌++◌, length, refl, sym, ap, ◌∙◌}
use Rattle.std.specs.Str.{IsUtf8, is_utf8}
use Rattle.std.proofs.lemmas.Str.{IsUtf8-from_is_utf8, is_utf8-from_IsUtf8}
use Rattle.name_spec.specs.Printed.{printed_octets}
use Rattle.svcb_spec.specs.PrintedValues.{opaque_key_name, opaque_text, utf8_or_printed}
use Rattle.svcb_value.specs.PrintingLaws.{with_printed}

-- octets that are UTF-8
pub utf8_text : (octets shown : List ℕ) → shown ≡ octets → IsUtf8 octets
    → shown ≡ utf8_or_printed octets
utf8_text octets shown same utf8 = rw (is_utf8-from_IsUtf8 octets utf8) same

not_utf8 : (octets : List ℕ) (b : Bool) → is_utf8 octets ≡ b → (IsUtf8 octets → ⊥) → b ≡ false
not_utf8 octets true is other = absurd (other (IsUtf8-from_is_utf8 octets is))
not_utf8 octets false is other = refl

-- other octets
pub other_text : (octets shown : List ℕ) → shown ≡ octets → (IsUtf8 octets → ⊥)
    → printed_octets shown ≡ utf8_or_printed octets
other_text octets shown same other =
    rw (not_utf8 octets (is_utf8 octets) refl other) (ap printed_octets same)

-- a key, and octets behind it
pub opaque_pair : (key written_key : ℕ) (octets shown : List ℕ) → written_key ≡ key
    → shown ≡ octets → (length octets == 0) ≡ false
    → opaque_key_name written_key ++ 61 ∷ printed_octets shown ≡ opaque_text key octets
opaque_pair key written_key octets shown same_key same some =
    ap (λ n. opaque_key_name n ++ 61 ∷ printed_octets shown) same_key
    ∙ ap (λ (text : List ℕ). opaque_key_name key ++ 61 ∷ printed_octets text) same
    ∙ rw some refl
    ∙ sym (with_printed (opaque_key_name key) octets)
