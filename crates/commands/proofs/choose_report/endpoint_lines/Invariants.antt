-- The lines of the endpoints so far were added.
use Rattle.std.proofs.Common.{◌≡◌, take}
use Rattle.std.specs.Prelude.{string_bytes}
use Rattle.commands.specs.ChooseReport.{endpoint_lines}
use Rattle.commands.proofs.choose_report.endpoint_lines.Given as goal

abbrev pub invariant-loop-endpoint : goal.invariant-loop-endpoint
invariant-loop-endpoint l =
    string_bytes l.report ≡ endpoint_lines (take l.endpoint-index l.endpoints)
