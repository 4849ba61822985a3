use Rattle.std.proofs.Common.{◌≡◌, ◌∷◌, ◌++◌, [], length, ap, ◌∙◌, arith}
use Rattle.svcb_spec.specs.BuildingValues.{IsProtocolLength}
use Rattle.svcb_params.proofs.Protocols.{next_taken, next_fault}
use Rattle.svcb_params.proofs.typed_pushes.alpn_of.Goals as goal

pub loop-protocol-preserved : goal.loop-protocol-preserved
loop-protocol-preserved c =
    let l = c.loop-protocol in
    let protocol = c.protocol-item.result in
    let pushed : c.push.new.self ≡ l.builder ++ protocol ∷ [] =
    c.in_ok-push.ensures.ok ∙ ap (λ p. l.builder ++ p ∷ []) c.as_slice.ensures in
    let is : IsProtocolLength (length protocol) =
    rw (← c.as_slice.ensures) c.in_ok-push.ensures.answer.0 in
    record {
      so_far = next_taken _ l.builder _ l.protocol-index protocol
          (omega arith) c.protocol-item.is pushed l.invariant.so_far;
      fault = l.invariant.fault
          ∙ next_fault _ l.builder _ l.protocol-index protocol
          (omega arith) c.protocol-item.is pushed is
          (rw (← c.as_slice.ensures) c.in_ok-push.ensures.answer.1);
    }
