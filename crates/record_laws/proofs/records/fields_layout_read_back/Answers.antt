use Rattle.record_laws.proofs.Data.{data_layout_again}
use Rattle.record_laws.proofs.records.fields_layout_read_back.Goals as goal

pub returns : goal.returns
returns c = data_layout_again
