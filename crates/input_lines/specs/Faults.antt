-- The faults of form in an input.
use Rattle.std.specs.Prelude.{ℕ, List, ◌++◌, codes}
use Rattle.std.specs.Fmt.{decimal}
use Rattle.input_lines.specs.ExitCodes.{exit_code}
use Rattle.input_lines.specs.Report.{Answer, line}
use Rattle.input_lines.specs.declared.exit_status.ExitStatus.TheVariants as exit
use Rattle.input_lines.specs.declared.faults.InputFault.{InputFault}
use Rattle.input_lines.specs.declared.faults.InputFault.TheVariants.{BadLine, DataOutsideMessage, LimitTooLarge, PrioritiesNotAscending, RecordsNotAscending}

-- what a report says of a fault
abbrev pub fault_text : InputFault → List ℕ
fault_text (BadLine number) = codes "bad line " ++ decimal number
fault_text DataOutsideMessage = codes "place outside message"
fault_text LimitTooLarge = codes "limit too large"
fault_text PrioritiesNotAscending = codes "priorities not ascending"
fault_text RecordsNotAscending = codes "records not ascending"

-- the answer to an input with a fault of form
abbrev pub due_of_fault : InputFault → Answer
due_of_fault fault = record {
  status = exit_code exit.BadInput;
  report = line (codes "refused: " ++ fault_text fault);
}
