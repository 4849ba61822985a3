use Rattle.std.proofs.Common.{◌≡◌, length}
use Rattle.std.specs.List.{AllByRecursion}
use Rattle.svcb_spec.specs.BuildingValues.{IsProtocolLength}
use Rattle.svcb_spec.specs.ValueTexts.{protocols_of}
use Rattle.svcb_spec.specs.ListTexts.{left_len}
use Rattle.svcb_text.proofs.ProtocolLemmas.{behind_protocols, protocols_left}
use Rattle.svcb_text.proofs.alpn.read_protocols.Given as goal

abbrev pub invariant-loop-protocols : goal.invariant-loop-protocols
invariant-loop-protocols l = record {
  so_far : protocols_of l.text ≡ behind_protocols l.protocols.items (protocols_left l.items);
  each : AllByRecursion (λ protocol. IsProtocolLength (length protocol)) l.protocols.items;
}

abbrev pub decreases-loop-protocols : goal.decreases-loop-protocols
decreases-loop-protocols l = left_len l.items
