-- The pieces at the first separator, by where it stands.
use Rattle.std.proofs.Common.{sym}
use Rattle.std.proofs.lemmas.List.{take_rest}
use Rattle.input_lines.proofs.LineLemmas.{pieces-found, pieces-none}
use Rattle.input_lines.proofs.lines.cut.Goals as goal

pub returns-in-Some : goal.returns-in-Some
returns-in-Some c = rw take_rest (pieces-found _ _ _ (sym c.in-Some.ensures))

pub returns-in-None : goal.returns-in-None
returns-in-None c = pieces-none _ _ (sym c.in-None.ensures)
