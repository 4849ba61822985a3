use Rattle.record_laws.proofs.FieldLengths.{unknown-length}
use Rattle.record_laws.proofs.text_lengths.unknown_text_by_octets.Goals as goal

pub returns : goal.returns
returns c = unknown-length
