-- What answers `edit`.
use Rattle.std.specs.Prelude.{ℕ, List, ◌++◌, Result, Ok, Err}
use Rattle.hex.specs.Hex.{encode_lower}
use Rattle.svcb_spec.specs.Rebuilding.{Rebuilt, Refusal, Unread, OverLimit, TooLong, rebuild}
use Rattle.svcb_rdata.specs.RebuildErrors.{rebuild_error_text}
use Rattle.svcb_rdata.specs.declared.errors.RebuildError.TheVariants as errors
use Rattle.input_lines.specs.ExitCodes.{exit_code}
use Rattle.input_lines.specs.Faults.{due_of_fault}
use Rattle.input_lines.specs.Report.{Answer, line, not_done}
use Rattle.input_lines.specs.declared.exit_status.ExitStatus.TheVariants as exit
use Rattle.input_lines.specs.declared.faults.InputFault.{InputFault}
use Rattle.edit_program.specs.Faults.{data_fault_text}
use Rattle.edit_program.specs.Report.{reply_lines}
use Rattle.edit_program.specs.EditInput.{Spelled, edit_input_of}

-- what a report says of a refusal
abbrev pub refusal_text : Refusal → List ℕ
refusal_text (Unread fault) = data_fault_text fault
refusal_text OverLimit = rebuild_error_text errors.ShortBuf
refusal_text TooLong = rebuild_error_text errors.LongRecordData

-- to a well-formed input: why nothing is rebuilt, or what is reported of the data
abbrev pub report_of : (Rebuilt → Answer) → Result Rebuilt Refusal → Answer
report_of whole (Err refusal) = not_done (refusal_text refusal)
report_of whole (Ok done) = whole done

-- the replies, and the octets in hexadecimal
abbrev pub rebuild_report : Result Rebuilt Refusal → Answer
rebuild_report =
    report_of (λ done. record {
      status = exit_code exit.Done;
      report = reply_lines done.replies ++ line (encode_lower done.octets);
    })

-- to what an input spells
abbrev pub due_of_edit_input : Result Spelled InputFault → Answer
due_of_edit_input (Err fault) = due_of_fault fault
due_of_edit_input (Ok s) = rebuild_report (rebuild s.message s.start s.len s.pushes s.limit)

-- the answer of `edit` to an input that isn't too long
abbrev pub due_of_edit : List ℕ → Answer
due_of_edit input = due_of_edit_input (edit_input_of input)
