-- Parts of one length.
use Rattle.std.proofs.Common.{Fits, w8, ◌≡◌, ℕ, ◌%◌, ◌<◌, ◌≤◌, true, List, ◌∷◌, length, take, drop, ap, ◌∙◌, arith, length-drop}
use Rattle.std.specs.Prelude.{◌==◌, slice_index_or}
use Rattle.std.proofs.lemmas.Bool.Decides.{nat_tests}
use Rattle.svcb_spec.specs.ReadingValues.{parts, numbers}
use Rattle.svcb_spec.specs.Values.{numbers16_wire}
use Rattle.svcb_spec.proofs.ItemLaws.{whole_parts, parts-first, are_octets, numbers_wire-numbers, concat-parts}
use Rattle.std.specs.List.{concat}

-- what the test says
pub is_whole : (n len : ℕ) → (n % len == 0) ≡ true → n % len ≡ 0
is_whole n len whole = grind (arith, nat_tests)

pub whole_is : (n len : ℕ) → n % len ≡ 0 → (n % len == 0) ≡ true
whole_is n len whole = grind (arith, nat_tests)

-- the first part is there
pub part_fits : (len : ℕ) (octets : List ℕ) → 0 < len → 0 < length octets
    → (length octets % len == 0) ≡ true → len ≤ length octets
part_fits len octets some full whole =
    (whole_parts len (length octets) some full (is_whole (length octets) len whole)).0

-- the others are whole parts
pub parts_left : (len : ℕ) (octets : List ℕ) → 0 < len → 0 < length octets
    → (length octets % len == 0) ≡ true → (length (drop len octets) % len == 0) ≡ true
parts_left len octets some full whole =
    whole_is (length (drop len octets)) len
    (ap (λ n. n % len) (length-drop len octets)
    ∙ (whole_parts len (length octets) some full (is_whole (length octets) len whole)).1)

pub first_part : (len : ℕ) (octets : List ℕ) → 0 < len → 0 < length octets
    → parts len octets ≡ take len octets ∷ parts len (drop len octets)
first_part = parts-first

-- a part that the octets begin with, and the parts behind it
pub ruleset first_rules = (part_fits, first_part, parts_left)

-- the octets of a slice, which are its numbers' octets
pub numbers_encoded : (octets : List ℕ) → ((i : ℕ) → Fits w8 (slice_index_or octets i 0))
    → (length octets % 2 == 0) ≡ true → numbers16_wire (numbers octets) ≡ octets
numbers_encoded octets small whole =
    numbers_wire-numbers octets (are_octets octets (λ i. omega (arith, small i)))
    (is_whole (length octets) 2 whole)

-- parts, joined, are the octets
pub parts_encoded : (len : ℕ) (octets : List ℕ) → 0 < len → concat (parts len octets) ≡ octets
parts_encoded = concat-parts
