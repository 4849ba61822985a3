use Rattle.std.proofs.Common.{◌≡◌, drop}
use Rattle.wire_base.proofs.name_comparisons.skip_labels.Given as goal

abbrev pub invariant-loop : goal.invariant-loop
invariant-loop l = l.labels ≡ drop l.counter l.fn.labels
