-- What answers `show`.
use Rattle.std.specs.Prelude.{ℕ, Option, Some, None, Result, Ok, Err, List, ◌∷◌, length, slice_get, option_and_then}
use Rattle.name_spec.specs.Octets.{Fault}
use Rattle.wire_base.specs.Input.{Input}
use Rattle.record_spec.specs.RecordData.{RecordData}
use Rattle.record_spec.specs.UnionTexts.{union_printed}
use Rattle.rdata_union.specs.WholeData.{data_left}
use Rattle.input_lines.specs.Faults.{due_of_fault}
use Rattle.input_lines.specs.Hexadecimal.{hexadecimal_octets}
use Rattle.input_lines.specs.Lines.{lines}
use Rattle.input_lines.specs.Report.{Answer, done_answer, not_done}
use Rattle.input_lines.specs.Spelling.{line_or_fault, first_fault_or, ◌>>=◌}
use Rattle.input_lines.specs.declared.faults.InputFault.{InputFault}
use Rattle.input_lines.specs.declared.faults.InputFault.TheVariants.{BadLine}
use Rattle.edit_program.specs.Faults.{data_fault_text}

-- a second line is a fault
abbrev pub second_fault : List (List ℕ) → Option InputFault
second_fault (first ∷ second ∷ more) = Some (BadLine 2)
second_fault _ = None

-- the octets of the only line, which are in hexadecimal
abbrev pub only_line : List (List ℕ) → Result (List ℕ) InputFault
only_line all = do
  octets ← line_or_fault 1 (option_and_then hexadecimal_octets (slice_get all 0))
  first_fault_or (second_fault all) (Ok octets)

-- the octets that an input which isn't too long spells, or its first fault
abbrev pub spelled_octets : List ℕ → Result (List ℕ) InputFault
spelled_octets input = only_line (lines input)

-- octets as a message of their own
abbrev pub whole_message : List ℕ → Input
whole_message octets = record { message = octets; end = length octets; pos = 0 }

-- the data that all these octets are under a type number, or their first fault
abbrev pub data_in : ℕ → List ℕ → Result RecordData Fault
data_in rtype octets = data_left rtype (whole_message octets)

-- to octets that are read as data: its text
abbrev pub data_shown : Result RecordData Fault → Answer
data_shown (Ok found) = done_answer (union_printed found)
data_shown (Err fault) = not_done (data_fault_text fault)

-- to what an input spells
abbrev pub due_of_octets : ℕ → Result (List ℕ) InputFault → Answer
due_of_octets rtype (Err fault) = due_of_fault fault
due_of_octets rtype (Ok octets) = data_shown (data_in rtype octets)

-- the answer of `show`, for a type number, to an input that isn't too long
abbrev pub due_of_show : ℕ → List ℕ → Answer
due_of_show rtype input = due_of_octets rtype (spelled_octets input)
