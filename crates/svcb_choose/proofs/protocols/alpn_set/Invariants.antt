use Rattle.std.proofs.Common.{◌≡◌, ◌++◌, List, ℕ}
use Rattle.svcb_spec.specs.ReadingValues.{protocols}
use Rattle.svcb_choose.specs.Protocols.{alpn_items, IsSetOf}
use Rattle.svcb_choose.proofs.protocols.alpn_set.Given as goal

abbrev pub invariant-loop-protocol : goal.invariant-loop-protocol
invariant-loop-protocol l = (listed : List (List ℕ))
    × (alpn_items l.params ≡ listed ++ protocols l.protocol-iterator) × IsSetOf l.known listed
