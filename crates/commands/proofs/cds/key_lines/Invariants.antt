-- The records so far, and those of the lines that are left, are those of all lines.
use Rattle.std.proofs.Common.{◌≡◌, ◌+◌, ◌^◌, ◌≤◌, length}
use Rattle.input_lines.specs.Spelling.{each_line}
use Rattle.input_lines.proofs.SpellingLemmas.{behind}
use Rattle.commands.specs.Cds.{key_line}
use Rattle.commands.proofs.cds.key_lines.Given as goal

abbrev pub invariant-loop-line : goal.invariant-loop-line
invariant-loop-line l = record {
  number : l.number + length l.input ≤ 2 ^ 63 + 2;
  found : each_line key_line 2 l.initial.input
      ≡ behind l.records.items (each_line key_line l.number l.input);
}
