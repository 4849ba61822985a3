use Rattle.std.proofs.Common.{◌≡◌, ◌++◌}
use Rattle.svcb_spec.specs.ReadingValues.{protocols}
use Rattle.svcb_choose.specs.Usability.{alpn_protocols}
use Rattle.commands.proofs.defaults.copies.Given as goal

abbrev pub invariant-loop-protocol : goal.invariant-loop-protocol
invariant-loop-protocol l =
    alpn_protocols l.alpn ≡ l.protocols.items ++ protocols l.protocol-iterator
