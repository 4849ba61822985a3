use Rattle.svcb_spec.proofs.RebuildLaws.{accept-map}
use Rattle.svcb_spec.proofs.laws.accepted_map.Goals as goal

pub returns : goal.returns
returns c = accept-map
