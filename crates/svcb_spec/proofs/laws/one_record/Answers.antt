use Rattle.svcb_spec.proofs.RecordLaws.{one_record}
use Rattle.svcb_spec.proofs.laws.one_record.Goals as goal

pub returns : goal.returns
returns c = one_record
