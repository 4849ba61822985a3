use Rattle.std.proofs.Common.{◌≡◌, ◌<◌, List, ℕ, length, take, get_or, sym, subst, arith}
use Rattle.svcb_spec.specs.Values.{Alpn, protocols_wire}
use Rattle.svcb_spec.specs.BuildingValues.{IsProtocolLength}
use Rattle.svcb_text.proofs.ProtocolLemmas.{push_answers, protocol_at, protocols_exceed}
use Rattle.svcb_text.proofs.alpn.build_alpn.Goals as goal

pub returns-in-Err : goal.returns-in-Err
returns-in-Err c =
    let protocols = c.args.protocols.now in
    let i = c.loop-protocol.protocol-index in
    let item = c.protocol-item.result in
    let within : i < length protocols = omega arith in
    let at : item ≡ get_or protocols i item = c.protocol-item.is in
    let is : IsProtocolLength (length item) =
    subst (λ (p : List ℕ). IsProtocolLength (length p)) (sym at)
    (protocol_at i protocols item c.requires within) in
    let refused = rw (c.as_slice.ensures, c.loop-protocol.invariant.built) at
    c.in-Err.ensures.answer in
    rw c.protocol_fault.ensures
    (push_answers c.in-Err.error (length (protocols_wire (take i protocols))) (length item)
    (Alpn protocols) is refused
    (λ over. protocols_exceed i protocols item within at over))
