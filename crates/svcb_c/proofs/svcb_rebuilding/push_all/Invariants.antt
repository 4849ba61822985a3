use Rattle.std.proofs.Common.{◌≡◌, map, length}
use Rattle.svcb_spec.specs.Rebuilding.{accept}
use Rattle.svcb_rdata.proofs.Pushes.{with_replies, left_from}
use Rattle.svcb_c.specs.Svcb.{pushed_value}
use Rattle.svcb_c.proofs.svcb_rebuilding.push_all.Given as goal

-- The replies so far stand in front of those to come.
abbrev pub invariant-loop-i : goal.invariant-loop-i
invariant-loop-i l = record {
  accepted : accept l.fn.params.builder.pairs l.fn.params.builder.limit
      (map (pushed_value l.octets) l.fn.pushes)
      ≡ with_replies l.replies.items
      (accept l.params.builder.pairs l.params.builder.limit
      (left_from (pushed_value l.octets) l.i l.pushes));
  count : length l.replies.items ≡ l.i;
}
