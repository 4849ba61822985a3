-- How the program ends.
use Rattle.std.specs.Prelude.{◌≡◌, ◌≢◌, ◌<◌, ◌≤◌, ℕ, List, Option, Some, None, Result, Ok, Err, take, IfOk, IfSome, MatchResult}
use Rattle.std.specs.Io.KnownBytes.{Appends, Keeps}
use Rattle.input_lines.specs.ExitCodes.{exit_code}
use Rattle.input_lines.specs.Report.{Answer}
use Rattle.input_lines.specs.declared.exit_status.ExitStatus.TheVariants as exit
use Rattle.edit_program.specs.declared.words.Command.{Command}
use Rattle.edit_program.specs.declared.run_error.RunError.{RunError}
use Rattle.edit_program.specs.declared.run_error.RunError.TheVariants.{ReadFault, WriteFault, NoMemory}

-- the whole report was written
abbrev pub Whole : Answer → Option (List ℕ) → Option (List ℕ) → Type 0
Whole answer old new = Appends old new answer.report

-- a prefix of the report was written
abbrev pub Part : Answer → Option (List ℕ) → Option (List ℕ) → Type 0
Part answer old new = (count : ℕ) × Appends old new (take count answer.report)

-- The status, and what the sink holds, by the answer that is due.
pub record Ends (status : ℕ) (answer : Option Answer) (old new : Option (List ℕ)) : Type 0 where
  pub within : status ≤ exit_code exit.NoMemory
  -- a report was written: that answer's status and whole report
  pub whole : status < exit_code exit.ReadFault
      → IfSome answer (λ a. (status ≡ a.status) × Whole a old new)
  -- a write failed: a prefix of its report
  pub part : status ≡ exit_code exit.WriteFault → IfSome answer (λ a. Part a old new)
  -- a read failed, or allocation failed: nothing
  pub read_fault : status ≡ exit_code exit.ReadFault → Keeps old new
  pub no_memory : status ≡ exit_code exit.NoMemory → Keeps old new

-- what the sink holds where the program stops
abbrev pub RunErrors : RunError → Option Answer → Option (List ℕ) → Option (List ℕ) → Type 0
RunErrors ReadFault answer old new = Keeps old new
RunErrors WriteFault answer old new = IfSome answer (λ a. Part a old new)
RunErrors NoMemory answer old new = Keeps old new

-- how a command ends, before there is a status for each stop
abbrev pub Performs : Result ℕ RunError → Option Answer → Option (List ℕ) → Option (List ℕ)
    → Type 0
Performs (Ok status) answer old new =
    (status < exit_code exit.ReadFault)
    × IfSome answer (λ a. (status ≡ a.status) × Whole a old new)
Performs (Err stop) answer old new = RunErrors stop answer old new

-- a write failed, which alone stops the program at words that are no command
abbrev pub IsWriteFault : RunError → Type 0
IsWriteFault ReadFault = ⊥
IsWriteFault WriteFault = Unit {0}
IsWriteFault NoMemory = ⊥

-- no write failed, since none was tried
abbrev pub IsNoWriteFault : RunError → Type 0
IsNoWriteFault ReadFault = Unit {0}
IsNoWriteFault WriteFault = ⊥
IsNoWriteFault NoMemory = Unit {0}

-- The status is that of an unknown command for words that are no command, and for no others. Before
-- such words only a write may fail.
abbrev pub TellsCommand : Option Command → Result ℕ RunError → Type 0
TellsCommand None result =
    MatchResult result (λ status. status ≡ exit_code exit.UnknownCommand) IsWriteFault
TellsCommand (Some command) result =
    IfOk result (λ status. status ≢ exit_code exit.UnknownCommand)

-- no read failed, since none was tried
abbrev pub IsNoReadFault : RunError → Type 0
IsNoReadFault ReadFault = ⊥
IsNoReadFault WriteFault = Unit {0}
IsNoReadFault NoMemory = Unit {0}
