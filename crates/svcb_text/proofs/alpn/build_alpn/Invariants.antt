use Rattle.std.proofs.Common.{◌≡◌, ◌≤◌, length, take}
use Rattle.svcb_spec.specs.Values.{protocols_wire}
use Rattle.svcb_text.proofs.alpn.build_alpn.Given as goal

abbrev pub invariant-loop-protocol : goal.invariant-loop-protocol
invariant-loop-protocol l = record {
  built : l.builder ≡ take l.protocol-index l.protocols;
  within : length (protocols_wire l.builder) ≤ 65535;
}
