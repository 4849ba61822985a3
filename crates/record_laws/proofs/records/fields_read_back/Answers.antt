use Rattle.record_laws.proofs.Octets.{data_again}
use Rattle.record_laws.proofs.records.fields_read_back.Goals as goal

pub returns : goal.returns
returns c = data_again
