use Rattle.std.proofs.Common.{◌≡◌, ◌+◌, ◌*◌, ◌≤◌, drop, true}
use Rattle.cds_check.specs.KeyTags.{octet_sum}
use Rattle.cds_check.proofs.tags.octet_sum.Given as goal

abbrev pub invariant-loop-octet : goal.invariant-loop-octet
invariant-loop-octet l = record {
  sum : l.sum + octet_sum l.is_even (drop l.octet-index l.octets) ≡ octet_sum true l.octets;
  fits : l.sum ≤ 65280 * l.octet-index;
}
