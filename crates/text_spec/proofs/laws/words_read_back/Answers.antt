use Rattle.text_spec.proofs.WordRows.{words_again}
use Rattle.text_spec.proofs.laws.words_read_back.Goals as goal

pub returns : goal.returns
returns c = words_again
