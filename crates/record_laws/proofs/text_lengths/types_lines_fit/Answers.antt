use Rattle.record_laws.proofs.FieldLengths.{types-fit}
use Rattle.record_laws.proofs.text_lengths.types_lines_fit.Goals as goal

pub returns : goal.returns
returns c = types-fit
