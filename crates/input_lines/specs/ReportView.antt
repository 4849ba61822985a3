-- The answer that the program keeps, as its definition sees it.
use Rattle.std.specs.Prelude.{string_bytes}
use Rattle.input_lines.specs.Report as spec
use Rattle.input_lines.specs.declared.report.Answer.{Answer}

abbrev pub answer_view : Answer → spec.Answer
answer_view answer =
    record { status = spec.status_of answer.outcome; report = string_bytes answer.report }
