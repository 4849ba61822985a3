-- The first line is the first piece.
use Rattle.input_lines.proofs.LineLemmas.{lines-more, lines-last}
use Rattle.input_lines.proofs.lines.first_line.Goals as goal

pub returns-in-Some : goal.returns-in-Some
returns-in-Some c =
    lines-more c.cut.result.0.now c.in-Some.rest.now c.args.bytes.now
    (rw c.in-Some.is at c.cut.ensures)

pub returns-in-None : goal.returns-in-None
returns-in-None c =
    lines-last c.cut.result.0.now c.args.bytes.now c.requires (rw c.in-None.is at c.cut.ensures)
