-- What a command answers: a report, and the status that goes with it.
use Rattle.std.specs.Prelude.{ℕ, List, [], ◌∷◌, ◌++◌, codes}
use Rattle.input_lines.specs.ExitCodes.{exit_code}
use Rattle.input_lines.specs.declared.exit_status.ExitStatus.TheVariants as exit
use Rattle.input_lines.specs.declared.report.Outcome.{Outcome}
use Rattle.input_lines.specs.declared.report.Outcome.TheVariants.{Done, BadInput, NotDone}

-- a text, and the LF that ends its line
abbrev pub line : List ℕ → List ℕ
line text = text ++ 10 ∷ []

-- the status of each outcome
abbrev pub status_of : Outcome → ℕ
status_of Done = exit_code exit.Done
status_of BadInput = exit_code exit.BadInput
status_of NotDone = exit_code exit.NotDone

-- a status, and the report that is written with it
pub record Answer : Type 0 where
  pub status : ℕ
  pub report : List ℕ

-- the command was done, and this is the line that it gives
abbrev pub done_answer : List ℕ → Answer
done_answer text = record { status = exit_code exit.Done; report = line text }

-- the input is well formed, and for this reason what it asks for can't be done
abbrev pub not_done : List ℕ → Answer
not_done reason = record {
  status = exit_code exit.NotDone;
  report = line (codes "error: " ++ reason);
}
