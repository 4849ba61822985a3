use Rattle.text_spec.proofs.PrintedTexts.{octets_again}
use Rattle.text_spec.proofs.laws.octets_read_back.Goals as goal

pub returns : goal.returns
returns c = octets_again
