use Rattle.svcb_spec.proofs.RecordLaws.{read-rdata}
use Rattle.svcb_spec.proofs.laws.record_read_back.Goals as goal

pub returns : goal.returns
returns c = read-rdata
