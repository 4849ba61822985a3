use Rattle.std.proofs.Common.{◌∙◌}
use Rattle.svcb_choose.proofs.Places.{are_usable}
use Rattle.svcb_choose.proofs.choosing.choose.Goals as goal

pub returns-clause-usable : goal.returns-clause-usable
returns-clause-usable g c =
    are_usable _ _ _ _ _ (c.from_vec-2.ensures ∙ c.in_ok-endpoints.ensures)
