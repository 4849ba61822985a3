-- The records so far, and those of the lines that are left, are those of all lines.
use Rattle.std.proofs.Common.{◌≡◌, ◌+◌, ◌^◌, ◌≤◌, length}
use Rattle.input_lines.specs.Spelling.{each_line}
use Rattle.input_lines.proofs.SpellingLemmas.{behind}
use Rattle.commands.specs.ZoneLines.{record_line}
use Rattle.commands.proofs.zonemd.record_lines.Given as goal

abbrev pub invariant-loop-line : goal.invariant-loop-line
invariant-loop-line l = record {
  number : l.number + length l.input ≤ 2 ^ 63 + 3;
  found : each_line record_line 3 l.initial.input
      ≡ behind l.records.items (each_line record_line l.number l.input);
}
