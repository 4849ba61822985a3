use Rattle.input_lines.proofs.NumberLemmas.{Reads}
use Rattle.input_lines.proofs.numbers.number.Given as goal

-- the digits before this one are read
abbrev pub invariant-loop-i : goal.invariant-loop-i
invariant-loop-i l = Reads l.text l.i l.number
