use Rattle.svcb_spec.proofs.RebuildLaws.{accept-holds}
use Rattle.svcb_spec.proofs.laws.accepted_held.Goals as goal

pub returns : goal.returns
returns c = accept-holds
