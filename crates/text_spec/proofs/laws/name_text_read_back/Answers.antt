use Rattle.text_spec.proofs.NameTexts.{name_again}
use Rattle.text_spec.proofs.laws.name_text_read_back.Goals as goal

pub returns : goal.returns
returns c = name_again
