-- Why the program stops with no report, or with a part of it.
use Rattle.std.specs.Prelude.{◌≡◌, ◌+◌, ◌≤◌, ℕ}
use Rattle.std.specs.declared.io.ErrorKind.{ErrorKind}
use Rattle.std.specs.declared.io.ErrorKind.TheVariants.{OutOfMemory}
use Rattle.devices.specs.Faults.{Rose}
use Rattle.devices.specs.declared.transfer.ReadError.{ReadError}
use Rattle.devices.specs.declared.transfer.ReadError.TheVariants as read
use Rattle.input_lines.specs.ExitCodes.{exit_code}
use Rattle.input_lines.specs.declared.exit_status.ExitStatus.TheVariants as exit
use Rattle.edit_program.specs.declared.run_error.RunError.{RunError}
use Rattle.edit_program.specs.declared.run_error.RunError.TheVariants.{ReadFault, WriteFault, NoMemory}

-- the status of each stop
abbrev pub run_error_status : RunError → ℕ
run_error_status ReadFault = exit_code exit.ReadFault
run_error_status WriteFault = exit_code exit.WriteFault
run_error_status NoMemory = exit_code exit.NoMemory

-- the status where the system refuses the words: that of a failed allocation, or one that no run
-- gives
abbrev pub status_without_words : ErrorKind → ℕ
status_without_words OutOfMemory = exit_code exit.NoMemory
status_without_words _ = exit_code exit.NoWords

-- the cause where an input is not read
abbrev pub run_error_of : ReadError → RunError
run_error_of read.Failed = ReadFault
run_error_of read.NoMemory = NoMemory

-- the source's count rose at a read fault alone
abbrev pub SourceCause : RunError → ℕ → ℕ → Type 0
SourceCause ReadFault before now = Rose before now
SourceCause WriteFault before now = now ≡ before
SourceCause NoMemory before now = now ≡ before

-- the sink's count rose at a write fault alone
abbrev pub SinkCause : RunError → ℕ → ℕ → Type 0
SinkCause ReadFault before now = now ≡ before
SinkCause WriteFault before now = Rose before now
SinkCause NoMemory before now = now ≡ before

-- a write that took no octet is one that failed, and the last
abbrev pub LastWrite : RunError → ℕ → ℕ → Type 0
LastWrite ReadFault before now = now ≡ before
LastWrite WriteFault before now = now ≤ before + 1
LastWrite NoMemory before now = now ≡ before
