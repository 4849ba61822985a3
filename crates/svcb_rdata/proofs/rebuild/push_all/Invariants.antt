use Rattle.std.proofs.Common.{◌≡◌, map}
use Rattle.svcb_spec.specs.Values.{AreValues}
use Rattle.svcb_spec.specs.Rebuilding.{accept}
use Rattle.svcb_text.specs.AllValues.{value_of}
use Rattle.svcb_rdata.proofs.Pushes.{with_replies, left_from}
use Rattle.svcb_rdata.proofs.rebuild.push_all.Given as goal

-- The replies so far stand in front of those to come, and all are values if those are that are
-- left.
abbrev pub invariant-loop-push : goal.invariant-loop-push
invariant-loop-push l = record {
  accepted : accept l.fn.params.builder.pairs l.fn.params.builder.limit (map value_of l.fn.pushes)
      ≡ with_replies l.replies.items
      (accept l.params.builder.pairs l.params.builder.limit
      (left_from value_of l.push-index l.pushes));
  values : AreValues (left_from value_of l.push-index l.pushes)
      → AreValues (map value_of l.fn.pushes);
}
