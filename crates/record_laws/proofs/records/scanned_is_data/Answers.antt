use Rattle.record_laws.proofs.Scanned.{scanned_data}
use Rattle.record_laws.proofs.records.scanned_is_data.Goals as goal

pub returns : goal.returns
returns c = scanned_data
