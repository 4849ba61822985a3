-- Comparing texts with ASCII case ignored.
use Rattle.std.proofs.Common.{◌≡◌, ℕ, List, Bool, true}
use Rattle.registry.specs.Tables.{lower_case, is_same}
use Rattle.std.specs.Cmp.Lexicographic.{bytes_decides}
use Rattle.std.proofs.lemmas.Bool.Decides.{same_from_decides}

-- what a test of two texts in lower case says
pub same_test : (r : Bool) (a b : List ℕ) → (r ≡ true → lower_case a ≡ lower_case b)
    → (lower_case a ≡ lower_case b → r ≡ true) → r ≡ is_same a b
same_test r a b to from =
    same_from_decides r (is_same a b) (to, from) (bytes_decides (lower_case a) (lower_case b))
