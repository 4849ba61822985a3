use Rattle.svcb_laws.proofs.DataLengths.{data-length}
use Rattle.svcb_laws.proofs.text_lengths.data_text_by_octets.Goals as goal

pub returns : goal.returns
returns c = data-length
