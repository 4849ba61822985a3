use Rattle.svcb_laws.proofs.Lines.{line_again}
use Rattle.svcb_laws.proofs.data_texts.line_has_tokens.Goals as goal

pub returns : goal.returns
returns c = line_again
