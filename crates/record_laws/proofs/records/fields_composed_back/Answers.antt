use Rattle.record_laws.proofs.Octets.{read_again}
use Rattle.record_laws.proofs.records.fields_composed_back.Goals as goal

pub returns : goal.returns
returns c = read_again
