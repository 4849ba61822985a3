-- What each command answers. A command has a row here where it answers, and one where it says
-- whether it reads.
use Rattle.std.specs.Prelude.{ℕ, Bool, true, false, nat_lt, if◌then◌else◌, Option, Some, None, List, [], length}
use Rattle.std.specs.Option.{option_map}
use Rattle.devices.specs.declared.transfer.TheConstants.{MAX_INPUT}
use Rattle.commands.specs.Cds.{due_of_cds}
use Rattle.commands.specs.Choose.{due_of_choose}
use Rattle.commands.specs.Zonemd.{due_of_zonemd}
use Rattle.edit_program.specs.Edit.{due_of_edit}
use Rattle.edit_program.specs.Generate.{due_of_gen}
use Rattle.input_lines.specs.Report.{Answer}
use Rattle.edit_program.specs.Report.{no_command, too_long}
use Rattle.edit_program.specs.Scan.{due_of_scan}
use Rattle.edit_program.specs.Show.{due_of_show}
use Rattle.edit_program.specs.declared.words.Command.{Command}
use Rattle.edit_program.specs.declared.words.Command.TheVariants.{Edit, Show, Scan, Gen, Choose, Cds, Zonemd}

-- the answer of a command to an input that isn't too long
unfoldable pub answer_of : Command → List ℕ → Answer
answer_of Edit input = due_of_edit input
answer_of (Show rtype) input = due_of_show rtype input
answer_of (Scan rtype) input = due_of_scan rtype input
answer_of (Gen count) input = due_of_gen count
answer_of Choose input = due_of_choose input
answer_of Cds input = due_of_cds input
answer_of Zonemd input = due_of_zonemd input

-- the command reads the input; one that doesn't is given an empty one
unfoldable pub is_reading : Command → Bool
is_reading Edit = true
is_reading (Show rtype) = true
is_reading (Scan rtype) = true
is_reading (Gen count) = false
is_reading Choose = true
is_reading Cds = true
is_reading Zonemd = true

-- the answer of a command to an input
abbrev pub answer_to : Command → List ℕ → Answer
answer_to command input = if nat_lt MAX_INPUT (length input) then too_long
    else answer_of command input

-- what a command is given of what the source has left: unknown where it reads a source that doesn't
-- tell
abbrev pub input_of : Command → Option (List ℕ) → Option (List ℕ)
input_of command left = if is_reading command then left else Some []

-- The answer that is due to the words, where it is known. Words that are no command have an answer
-- of their own.
abbrev pub due : Option Command → Option (List ℕ) → Option Answer
due None left = Some no_command
due (Some command) left = option_map (answer_to command) (input_of command left)

-- the words name a command that reads the input
abbrev pub reads_input : Option Command → Bool
reads_input None = false
reads_input (Some command) = is_reading command
