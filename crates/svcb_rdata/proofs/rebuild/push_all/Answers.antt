use Rattle.std.proofs.Common.{◌∙◌, arith}
use Rattle.svcb_text.specs.AllValues.{value_of}
use Rattle.svcb_rdata.proofs.Pushes.{accept_none, accept_next, are_none, are_next}
use Rattle.svcb_rdata.proofs.rebuild.push_all.Goals as goal

pub loop-push-preserved : goal.loop-push-preserved
loop-push-preserved c = record {
  accepted =
      c.loop-push.invariant.accepted
      ∙ accept_next value_of _ c.loop-push.push-index c.loop-push.params.builder
      c.loop-push.replies.items c.push-item.result _ c.in_ok-reply.reply _
      (omega arith) c.push-item.is c.in_ok-reply.ensures.reply
      c.in_ok-reply.ensures.ok c.in_ok-push.ensures.items;
  values = λ rest. c.loop-push.invariant.values
      (are_next value_of _ c.loop-push.push-index c.push-item.result
      (omega arith) c.push-item.is c.in_ok-reply.ensures.value rest);
}

pub returns-clause-replies : goal.returns-clause-replies
returns-clause-replies c =
    rw c.from_vec.ensures
    (c.loop-push.invariant.accepted
    ∙ accept_none value_of _ c.loop-push.push-index c.loop-push.params.builder
    c.loop-push.replies.items (omega arith))

pub returns-clause-values : goal.returns-clause-values
returns-clause-values c =
    c.loop-push.invariant.values (are_none value_of _ c.loop-push.push-index (omega arith))
