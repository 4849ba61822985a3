-- The lines of replies, and the answers that no command gives.
use Rattle.std.specs.Prelude.{ℕ, List, codes}
use Rattle.std.specs.List.{flat_map}
use Rattle.svcb_spec.specs.declared.Reply.{Reply}
use Rattle.svcb_spec.specs.declared.Reply.TheVariants.{Accepted, DuplicateKey, ShortBuf}
use Rattle.input_lines.specs.ExitCodes.{exit_code}
use Rattle.input_lines.specs.Report.{Answer, line}
use Rattle.input_lines.specs.declared.exit_status.ExitStatus.TheVariants as exit

-- what a report says of a reply
abbrev pub reply_text : Reply → List ℕ
reply_text Accepted = codes "accepted"
reply_text DuplicateKey = codes "duplicate key"
reply_text ShortBuf = codes "short buffer"

-- a line for each reply
abbrev pub reply_lines : List Reply → List ℕ
reply_lines replies = flat_map (λ reply. line (reply_text reply)) replies

-- to words that are no command
abbrev pub no_command : Answer
no_command = record {
  status = exit_code exit.UnknownCommand;
  report = line (codes "refused: unknown command");
}

-- to an input of more octets than one may have
abbrev pub too_long : Answer
too_long = record {
  status = exit_code exit.BadInput;
  report = line (codes "refused: input too long");
}
