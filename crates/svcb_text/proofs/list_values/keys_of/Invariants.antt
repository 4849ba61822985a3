use Rattle.std.proofs.Common.{◌≡◌, ◌++◌}
use Rattle.svcb_text.proofs.list_values.keys_of.Given as goal

abbrev pub invariant-loop-number : goal.invariant-loop-number
invariant-loop-number l = l.keys.items ++ l.number-iterator ≡ l.numbers.keys
