-- How record data of any type is compared.
use Rattle.std.specs.Prelude.{Bool, ◌==◌, ◌++◌}
use Rattle.std.specs.declared.cmp.Ordering.{Ordering}
use Rattle.std.specs.Ordering.{nat_cmp, on, eq_of_both, then_cmp}
use Rattle.std.specs.Cmp.Lexicographic.{pointwise, slice_cmp}
use Rattle.std.specs.Hash as fed
use Rattle.wire_records.specs.UnknownView.{UnknownData}

-- equal type numbers and equal octets
abbrev pub is_same_unknown : UnknownData → UnknownData → Bool
is_same_unknown =
    eq_of_both (on (λ found. found.rtype) ◌==◌) (on (λ found. found.octets) (pointwise ◌==◌))

-- by type number, then octet by octet, a prefix of the other's octets first
abbrev pub unknown_cmp : UnknownData → UnknownData → Ordering
unknown_cmp = then_cmp (on (λ found. found.rtype) nat_cmp)
    (on (λ found. found.octets) (slice_cmp nat_cmp))

-- what is fed to a hasher
abbrev pub unknown_hash_input : UnknownData → fed.HashWrites
unknown_hash_input found = fed.u16 found.rtype ++ fed.slice fed.u8 found.octets
