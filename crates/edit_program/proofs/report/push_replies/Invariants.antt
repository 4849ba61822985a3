-- The lines of the replies so far were added.
use Rattle.std.proofs.Common.{◌≡◌, ◌++◌, take}
use Rattle.std.specs.Prelude.{string_bytes}
use Rattle.edit_program.specs.Report.{reply_lines}
use Rattle.edit_program.proofs.report.push_replies.Given as goal

abbrev pub invariant-loop-reply : goal.invariant-loop-reply
invariant-loop-reply l =
    string_bytes l.report
    ≡ string_bytes l.initial.report ++ reply_lines (take l.reply-index l.replies)
