-- The octets so far were added, each of at most 255.
use Rattle.std.proofs.Common.{◌≡◌, ◌≤◌, ◌*◌, take}
use Rattle.std.specs.List.{sum}
use Rattle.edit_program.proofs.generate.sum_octets.Given as goal

abbrev pub invariant-loop-octet : goal.invariant-loop-octet
invariant-loop-octet l = record {
  sum : l.sum ≡ sum (take l.octet-index l.octets);
  few : l.sum ≤ 255 * l.octet-index;
}
