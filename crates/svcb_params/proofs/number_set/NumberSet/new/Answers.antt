use Rattle.svcb_params.proofs.Distinct.{none_met}
use Rattle.svcb_params.proofs.number_set.NumberSet.new.Goals as goal

pub returns : goal.returns
returns c = none_met 1024
