-- What the calls on names answer.
use Rattle.std.specs.Prelude.{ℕ, List, Option, Some, None, Result, Ok, Err}
use Rattle.name_spec.specs.Octets.{Fault}
use Rattle.name_spec.specs.Names.{name_wire}
use Rattle.name_spec.specs.OwnedNames.{name_in}
use Rattle.name_spec.specs.Printed.{printed_name_with_dot}
use Rattle.input_lines.specs.Tokens.{lone_name}
use Rattle.svcb_c.specs.Statuses.{fault_status}
use Rattle.svcb_c.specs.declared.status.TheConstants.{HW_S_BAD_NAME}

-- the text of a name with its final dot, or the status of a fault
abbrev pub text_of_labels : Result (List (List ℕ)) Fault → Result (List ℕ) ℕ
text_of_labels (Ok labels) = Ok (printed_name_with_dot labels)
text_of_labels (Err fault) = Err (fault_status fault)

-- the text of the name that octets wholly are
abbrev pub name_text_due : List ℕ → Result (List ℕ) ℕ
name_text_due octets = text_of_labels (name_in octets)

-- the octets of a name, or the status that refuses a text that is none
abbrev pub wire_of_name : Option (List (List ℕ)) → Result (List ℕ) ℕ
wire_of_name (Some labels) = Ok (name_wire labels)
wire_of_name None = Err HW_S_BAD_NAME

-- the octets of the name that a text spells
abbrev pub name_octets_due : List ℕ → Result (List ℕ) ℕ
name_octets_due text = wire_of_name (lone_name text)
