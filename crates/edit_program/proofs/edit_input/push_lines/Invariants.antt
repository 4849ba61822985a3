-- The values so far, and those of the lines that are left, are those of all lines.
use Rattle.std.proofs.Common.{◌≡◌, ◌+◌, ◌^◌, ◌≤◌, length, map}
use Rattle.svcb_text.specs.AllValues.{value_of}
use Rattle.input_lines.specs.Spelling.{each_line}
use Rattle.input_lines.proofs.SpellingLemmas.{behind}
use Rattle.edit_program.specs.Pushes.{push_of}
use Rattle.edit_program.proofs.edit_input.push_lines.Given as goal

abbrev pub invariant-loop-line : goal.invariant-loop-line
invariant-loop-line l = record {
  number : l.number + length l.input ≤ 2 ^ 32 + 3;
  pushes : each_line push_of 3 l.initial.input
      ≡ behind (map value_of l.pushes.items) (each_line push_of l.number l.input);
}
