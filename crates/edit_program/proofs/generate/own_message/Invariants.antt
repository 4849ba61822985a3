-- The parameters so far stand behind the priority and the target.
use Rattle.std.proofs.Common.{◌≡◌, ◌-◌, ◌≤◌}
use Rattle.edit_program.specs.Generate.{own_message}
use Rattle.edit_program.proofs.generate.own_message.Given as goal

abbrev pub invariant-loop-i : goal.invariant-loop-i
invariant-loop-i l = record {
  within : l.i ≤ l.count;
  message : l.message.items ≡ own_message l.i;
}

abbrev pub decreases-loop-i : goal.decreases-loop-i
decreases-loop-i l = l.count - l.i
