use Rattle.svcb_spec.proofs.RebuildLaws.{rebuilt_again}
use Rattle.svcb_spec.proofs.laws.rebuilt_again.Goals as goal

pub returns : goal.returns
returns c = λ message start len values limit found done other is within. rebuilt_again message
    start len values limit found done is other within
