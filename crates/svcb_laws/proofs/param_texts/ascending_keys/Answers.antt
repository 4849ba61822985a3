use Rattle.svcb_laws.proofs.AscendingKeys.{ascending_keys}
use Rattle.svcb_laws.proofs.param_texts.ascending_keys.Goals as goal

pub returns : goal.returns
returns c = ascending_keys
