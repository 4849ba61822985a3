use Rattle.std.proofs.Common.{◌≡◌, length}
use Rattle.svcb_spec.specs.ReadingValues.{are_whole}
use Rattle.svcb_list.proofs.alpn.are_protocols.Given as goal

abbrev pub invariant-loop-len : goal.invariant-loop-len
invariant-loop-len l = are_whole l.octets ≡ are_whole l.rest

abbrev pub decreases-loop-len : goal.decreases-loop-len
decreases-loop-len l = length l.rest
