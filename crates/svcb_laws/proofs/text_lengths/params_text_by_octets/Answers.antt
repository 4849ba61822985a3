use Rattle.svcb_laws.proofs.DataLengths.{params-length}
use Rattle.svcb_laws.proofs.text_lengths.params_text_by_octets.Goals as goal

pub returns : goal.returns
returns c = params-length
