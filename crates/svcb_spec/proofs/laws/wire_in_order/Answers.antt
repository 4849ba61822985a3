use Rattle.svcb_spec.proofs.WireLaws.{wire-pairs}
use Rattle.svcb_spec.proofs.laws.wire_in_order.Goals as goal

pub returns : goal.returns
returns c = wire-pairs
