use Rattle.std.proofs.Common.{◌++◌, ◌∷◌, [], sym, ap, ◌∙◌, append_assoc}
use Rattle.svcb_spec.specs.ReadingValues.{protocols}
use Rattle.svcb_choose.proofs.ProtocolSets.{both_take}
use Rattle.svcb_choose.proofs.protocols.alpn_set.Goals as goal

pub loop-protocol-preserved : goal.loop-protocol-preserved
loop-protocol-preserved c =
    let before = c.loop-protocol.invariant in
    let protocol = c.in-Some-protocol.protocol in (
      before.0 ++ protocol.now ∷ [],
      before.1 ∙ ap (λ rest. before.0 ++ rest) c.in-Some-protocol.ensures.steps
          ∙ sym (append_assoc before.0 (protocol.now ∷ []) (protocols c.next.new.self)),
      both_take _ _ before.0 protocol before.2 c.in_ok-insert.ensures.updates,
    )
