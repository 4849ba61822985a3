use Rattle.std.proofs.Common.{◌∙◌, arith, length-append}
use Rattle.std.proofs.lemmas.List.{get_or_default}
use Rattle.svcb_c.specs.Svcb.{pushed_value}
use Rattle.svcb_rdata.proofs.Pushes.{accept_none, accept_next}
use Rattle.svcb_c.proofs.svcb_rebuilding.push_all.Goals as goal

pub loop-i-preserved : goal.loop-i-preserved
loop-i-preserved c = record {
  accepted =
      c.loop-i.invariant.accepted
      ∙ accept_next (pushed_value c.args.octets.now) c.args.pushes.now c.loop-i.i
      c.loop-i.params.builder c.loop-i.replies.items _ c.push_named.new.params.builder
      c.in_ok-reply.reply _ (omega arith)
      (get_or_default c.args.pushes.now c.loop-i.i _ _ (omega arith))
      c.in_ok-reply.ensures.reply c.in_ok-reply.ensures.ok c.in_ok-push.ensures.items;
  count = grind (arith, length-append, c.in_ok-push.ensures.items, c.loop-i.invariant.count);
}

pub returns-clause-replies : goal.returns-clause-replies
returns-clause-replies c =
    c.loop-i.invariant.accepted
    ∙ accept_none (pushed_value c.args.octets.now) c.args.pushes.now c.loop-i.i
    c.loop-i.params.builder c.loop-i.replies.items (omega arith)
