use Rattle.std.proofs.Common.{◌∙◌, ◌≤◌, List, ℕ, Ok, Option, length, ap, arith}
use Rattle.std.proofs.lemmas.Result.{err_from_is_err_and}
use Rattle.svcb_text.proofs.ProtocolLemmas.{taken, protocols_end, protocols_long, protocols_more, protocols_refused, each_protocol}
use Rattle.svcb_text.proofs.alpn.read_protocols.Goals as goal

pub returns-in_err-protocol-clause-answer : goal.returns-in_err-protocol-clause-answer
returns-in_err-protocol-clause-answer c =
    let p = err_from_is_err_and c.from_residual.result c.from_residual.ensures.1 in
    rw (p.1, p.2)
    (protocols_refused c.args.text.now c.loop-protocols.items c.loop-protocols.protocols.items
    c.loop-protocols.invariant.so_far c.in_err-protocol.field-0.0
    c.in_err-protocol.ensures.item)

pub returns-then-len-gt-MAX_PROTOCOL_LEN-clause-answer
    : goal.returns-then-len-gt-MAX_PROTOCOL_LEN-clause-answer
returns-then-len-gt-MAX_PROTOCOL_LEN-clause-answer c =
    protocols_long c.args.text.now c.loop-protocols.items c.loop-protocols.protocols.items
    c.loop-protocols.invariant.so_far c.in-Some.protocol
    (c.in_ok-protocol.ensures.item ∙ ap (λ (o : Option (List ℕ)). Ok o) c.in-Some.is) (omega arith)

pub returns-clause-answer : goal.returns-clause-answer
returns-clause-answer c =
    protocols_end c.args.text.now c.loop-protocols.items c.loop-protocols.protocols.items
    c.loop-protocols.invariant.so_far
    (c.in_ok-protocol.ensures.item ∙ ap (λ (o : Option (List ℕ)). Ok o) c.in_default.is)

pub loop-protocols-smaller : goal.loop-protocols-smaller
loop-protocols-smaller c =
    let first = taken c.loop-protocols.items c.in-Some.protocol
    (c.in_ok-protocol.ensures.item ∙ ap (λ (o : Option (List ℕ)). Ok o) c.in-Some.is) in
    rw c.in_ok-protocol.ensures.ok first.shorter

pub loop-protocols-preserved : goal.loop-protocols-preserved
loop-protocols-preserved c =
    let is = c.in_ok-protocol.ensures.item ∙ ap (λ (o : Option (List ℕ)). Ok o) c.in-Some.is in
    let item = c.in-Some.protocol in
    let short : length item ≤ 255 = omega arith in
    let first = taken c.loop-protocols.items item is in
    rw (c.in_ok-protocol.ensures.ok, c.in_ok-push.ensures.items) (record {
      so_far = protocols_more c.args.text.now c.loop-protocols.items
          c.loop-protocols.protocols.items c.loop-protocols.invariant.so_far item is short;
      each = each_protocol c.loop-protocols.protocols.items item c.loop-protocols.invariant.each
          first.not_empty short;
    })
