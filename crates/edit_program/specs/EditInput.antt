-- What an input of `edit` spells.
use Rattle.std.specs.Prelude.{ℕ, Result, Ok, List, length, drop, slice_get, option_and_then}
use Rattle.svcb_spec.specs.Values.{Value}
use Rattle.input_lines.specs.Hexadecimal.{hexadecimal_octets}
use Rattle.input_lines.specs.Lines.{lines}
use Rattle.input_lines.specs.Spelling.{line_or_fault, each_line, first_fault_or, ◌>>=◌}
use Rattle.input_lines.specs.declared.faults.InputFault.{InputFault}
use Rattle.edit_program.specs.Faults.{bounds_fault}
use Rattle.edit_program.specs.Bounds.{data_bounds_of}
use Rattle.edit_program.specs.Pushes.{push_of}

-- a message, where record data stands in it, a limit on the parameters, and the values that are
-- pushed
pub record Spelled : Type 0 where
  pub message : List ℕ
  pub start : ℕ
  pub len : ℕ
  pub limit : ℕ
  pub pushes : List Value

-- line 1 has the bounds, line 2 the message in hexadecimal, and each other line a push
abbrev pub edit_input_lines : List (List ℕ) → Result Spelled InputFault
edit_input_lines all = do
  bounds ← line_or_fault 1 (option_and_then data_bounds_of (slice_get all 0))
  message ← line_or_fault 2 (option_and_then hexadecimal_octets (slice_get all 1))
  pushes ← first_fault_or (bounds_fault bounds (length message)) (each_line push_of 3 (drop 2 all))
  Ok (record {
    message = message;
    start = bounds.start;
    len = bounds.len;
    limit = bounds.limit;
    pushes = pushes;
  })

-- what an input that isn't too long spells, or its first fault
abbrev pub edit_input_of : List ℕ → Result Spelled InputFault
edit_input_of bytes = edit_input_lines (lines bytes)
