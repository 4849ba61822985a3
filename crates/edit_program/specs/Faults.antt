-- The faults of the place that an input of `edit` names, and those of the octets of data.
use Rattle.std.specs.Prelude.{ℕ, ◌+◌, ◌^◌, nat_lt, nat_le, if◌then◌else◌, List, Option, Some, None}
use Rattle.name_spec.specs.Octets.{Fault}
use Rattle.wire_base.specs.ErrorTexts.{parse_error_text}
use Rattle.wire_base.specs.Faults.{error_of}
use Rattle.input_lines.specs.declared.faults.InputFault.{InputFault}
use Rattle.input_lines.specs.declared.faults.InputFault.TheVariants.{DataOutsideMessage, LimitTooLarge}
use Rattle.edit_program.specs.declared.data_bounds.DataBounds.{DataBounds}

-- what a report says of octets that are no data
abbrev pub data_fault_text : Fault → List ℕ
data_fault_text fault = parse_error_text (error_of fault)

-- the fault of bounds in a message of so many octets, if they have one
abbrev pub bounds_fault : DataBounds → ℕ → Option InputFault
bounds_fault bounds message_len =
    if nat_lt message_len (bounds.start + bounds.len) then Some DataOutsideMessage
    else if nat_le (2 ^ 31) bounds.limit then Some LimitTooLarge
    else None
