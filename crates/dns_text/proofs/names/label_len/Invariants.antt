use Rattle.std.proofs.Common.{◌≡◌, ◌+◌, drop}
use Rattle.dns_text.specs.Labels.{label_len}
use Rattle.dns_text.proofs.names.label_len.Given as goal

abbrev pub invariant-loop-i : goal.invariant-loop-i
invariant-loop-i l = label_len l.symbols ≡ l.i + label_len (drop l.i l.symbols)
