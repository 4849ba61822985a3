use Rattle.std.proofs.Common.{◌≡◌, ◌++◌}
use Rattle.svcb_spec.specs.ReadingValues.{protocols}
use Rattle.svcb_choose.specs.Protocols.{alpn_items}
use Rattle.svcb_choose.proofs.protocols.alpn_items.Given as goal

abbrev pub invariant-loop-protocol : goal.invariant-loop-protocol
invariant-loop-protocol l =
    alpn_items l.params ≡ l.listed.items ++ protocols l.protocol-iterator
