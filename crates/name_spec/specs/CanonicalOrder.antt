-- The canonical order of record data (RFC 4034, section 6.3).
use Rattle.std.specs.Prelude.{ℕ, List}
use Rattle.std.specs.declared.cmp.Ordering.{Ordering}
use Rattle.std.specs.Ordering.{nat_cmp, ordering_then}
use Rattle.std.specs.Cmp.Lexicographic.{slice_cmp}

-- data of different types by the numbers of their types, and data of one type by its octets in
-- canonical form
abbrev pub canonical_order : ℕ → List ℕ → ℕ → List ℕ → Ordering
canonical_order rtype octets rtype' octets' =
    ordering_then (nat_cmp rtype rtype') (slice_cmp nat_cmp octets octets')
