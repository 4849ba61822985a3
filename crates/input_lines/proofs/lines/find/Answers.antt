-- The first place is the position.
use Rattle.input_lines.proofs.LineLemmas.{position-first}
use Rattle.input_lines.proofs.lines.find.Goals as goal

pub returns : goal.returns
returns c = position-first c.args.separator c.args.bytes.now c.memchr.result c.memchr.ensures
