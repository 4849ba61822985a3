use Rattle.std.proofs.Common.{◌≡◌, ◌+◌, length, map}
use Rattle.std.specs.Char.{to_ascii_lowercase}
use Rattle.std.specs.Ordering.{nat_cmp}
use Rattle.std.specs.Cmp.Lexicographic.{slice_cmp}
use Rattle.wire_base.proofs.name_comparisons.lowercase_cmp.Given as goal

abbrev pub invariant-loop-octet : goal.invariant-loop-octet
invariant-loop-octet l = record {
  order : slice_cmp nat_cmp (map to_ascii_lowercase l.octet-iterator.a.rest.now)
      (map to_ascii_lowercase l.octet-iterator.b.rest.now)
      ≡ slice_cmp nat_cmp (map to_ascii_lowercase l.octets) (map to_ascii_lowercase l.others);
  as_far : length l.octets + length l.octet-iterator.b.rest.now
      ≡ length l.others + length l.octet-iterator.a.rest.now;
}
