-- How octets that begin with a prefix compare with others.
use Rattle.std.specs.Prelude.{◌≡◌, ℕ, List, ◌++◌}
use Rattle.std.specs.declared.cmp.Ordering.{Ordering}
use Rattle.std.specs.Ordering.{nat_cmp, ordering_then}
use Rattle.std.specs.Cmp.Lexicographic.{slice_cmp}

-- whatever stands behind the prefix: the order of the prefix decides, and then what stands behind
-- it against the rest
abbrev pub ComparesPrefix : List ℕ → List ℕ → Ordering → List ℕ → Type 0
ComparesPrefix prefix octets order rest =
    (behind : List ℕ)
    → slice_cmp nat_cmp (prefix ++ behind) octets
    ≡ ordering_then order (slice_cmp nat_cmp behind rest)
