use Rattle.std.proofs.Common.{◌≡◌, drop, take, length}
use Rattle.svcb_spec.specs.Values.{protocols_wire}
use Rattle.svcb_params.specs.ValueFaults.{alpn_fault, alpn_fault_behind}
use Rattle.svcb_params.proofs.typed_pushes.alpn_of.Given as goal

abbrev pub invariant-loop-protocol : goal.invariant-loop-protocol
invariant-loop-protocol l = record {
  so_far : l.builder ≡ take l.protocol-index l.protocols;
  fault : alpn_fault l.protocols
      ≡ alpn_fault_behind (length (protocols_wire l.builder)) (drop l.protocol-index l.protocols);
}
