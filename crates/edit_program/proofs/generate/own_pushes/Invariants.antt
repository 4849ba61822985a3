-- The values so far, and those below the number that is left, are all.
use Rattle.std.proofs.Common.{◌≡◌, ◌≤◌, ◌++◌, map}
use Rattle.svcb_text.specs.AllValues.{value_of}
use Rattle.edit_program.specs.Generate.{pushes_below}
use Rattle.edit_program.proofs.generate.own_pushes.Given as goal

abbrev pub invariant-loop-left : goal.invariant-loop-left
invariant-loop-left l = record {
  within : l.left ≤ l.count;
  pushes : map value_of l.pushes.items ++ pushes_below l.left ≡ pushes_below l.count;
}

abbrev pub decreases-loop-left : goal.decreases-loop-left
decreases-loop-left l = l.left
