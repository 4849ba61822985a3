use Rattle.svcb_rdata.proofs.ReaderLaws.{accepted_are_read}
use Rattle.svcb_rdata.proofs.laws.accepted_read.Goals as goal

pub returns : goal.returns
returns c = accepted_are_read
