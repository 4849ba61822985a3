use Rattle.svcb_laws.proofs.OpaqueTexts.{opaque_again}
use Rattle.svcb_laws.proofs.param_texts.opaque_read_back.Goals as goal

pub returns : goal.returns
returns c = opaque_again
