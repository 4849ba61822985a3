use Rattle.record_laws.proofs.Data.{data_text_again}
use Rattle.record_laws.proofs.records.fields_text_read_back.Goals as goal

pub returns : goal.returns
returns c = data_text_again
