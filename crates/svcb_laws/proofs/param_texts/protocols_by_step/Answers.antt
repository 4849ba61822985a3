use Rattle.svcb_spec.proofs.ProtocolTexts.{protocols_of-step}
use Rattle.svcb_laws.proofs.param_texts.protocols_by_step.Goals as goal

pub returns : goal.returns
returns c = protocols_of-step
