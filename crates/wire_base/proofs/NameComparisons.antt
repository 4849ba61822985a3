-- Comparing octets in lower case.
use Rattle.std.proofs.Common.{◌≡◌, ℕ, ◌+◌, ◌⊎◌, inl, inr, List, [], ◌∷◌, length, map, Ordering, ◌∙◌, arith}
use Rattle.std.specs.Char.{to_ascii_lowercase}
use Rattle.std.specs.Ordering.{nat_cmp}
use Rattle.std.specs.Cmp.Lexicographic.{slice_cmp}
use Rattle.std.proofs.lemmas.Bool.Decides.{nat_tests}

abbrev lower_cmp : List ℕ → List ℕ → Ordering
lower_cmp octets others =
    slice_cmp nat_cmp (map to_ascii_lowercase octets) (map to_ascii_lowercase others)

-- where as many octets of each are passed over, and one side has no more, the lengths tell
lengths_tell : (a b : List ℕ) (len len' : ℕ) → len + length b ≡ len' + length a
    → (length a ≡ 0) ⊎ (length b ≡ 0) → nat_cmp len len' ≡ lower_cmp a b
lengths_tell [] [] len len' as_far ended = grind (arith, nat_tests)
lengths_tell [] (other ∷ b) len len' as_far ended = grind (arith, nat_tests)
lengths_tell (octet ∷ a) [] len len' as_far ended = grind (arith, nat_tests)
lengths_tell (octet ∷ a) (other ∷ b) len len' as_far (inl ended) = absurd (omega arith)
lengths_tell (octet ∷ a) (other ∷ b) len len' as_far (inr ended) = absurd (omega arith)

pub lower_cmp-end : (a b octets others : List ℕ) → lower_cmp a b ≡ lower_cmp octets others
    → length octets + length b ≡ length others + length a → (length a ≡ 0) ⊎ (length b ≡ 0)
    → nat_cmp (length octets) (length others) ≡ lower_cmp octets others
lower_cmp-end a b octets others order as_far ended =
    lengths_tell a b (length octets) (length others) as_far ended ∙ order
