use Rattle.std.proofs.Common.{length}
use Rattle.dns_text.proofs.NameTexts.{IsWritten}
use Rattle.dns_text.proofs.names.write_labels.Given as goal

abbrev pub invariant-loop-symbols : goal.invariant-loop-symbols
invariant-loop-symbols l = IsWritten l.token l.symbols l.octets.items

abbrev pub decreases-loop-symbols : goal.decreases-loop-symbols
decreases-loop-symbols l = length l.symbols
