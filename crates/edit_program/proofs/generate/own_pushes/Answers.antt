-- A value more in front of those that are left.
use Rattle.std.proofs.Common.{map, arith}
use Rattle.svcb_text.specs.AllValues.{value_of}
use Rattle.edit_program.specs.Generate.{pushes_below}
use Rattle.edit_program.proofs.GenLemmas.{pushes_below-more, pushes_below-none}
use Rattle.edit_program.proofs.generate.own_pushes.Goals as goal

pub loop-left-preserved : goal.loop-left-preserved
loop-left-preserved c = record {
  within = omega (arith, c.loop-left.invariant.within);
  pushes = pushes_below-more (map value_of c.loop-left.pushes.items) _ c.loop-left.left _
      (omega (arith, c.loop-left-test.true)) c.in_ok-add_push.ensures c.loop-left.invariant.pushes;
}

pub returns : goal.returns
returns c = pushes_below-none (map value_of c.loop-left.pushes.items) c.loop-left.left
    (pushes_below c.args.count) (omega arith) c.loop-left.invariant.pushes
