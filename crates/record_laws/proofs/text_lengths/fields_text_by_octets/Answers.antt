use Rattle.record_laws.proofs.FieldLengths.{fields-length}
use Rattle.record_laws.proofs.text_lengths.fields_text_by_octets.Goals as goal

pub returns : goal.returns
returns c = fields-length
