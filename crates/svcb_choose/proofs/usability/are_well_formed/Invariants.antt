use Rattle.std.proofs.Common.{◌≡◌}
use Rattle.std.specs.Prelude.{is_ok}
use Rattle.std.specs.List.{list_all}
use Rattle.svcb_params.specs.Items.{all_items}
use Rattle.svcb_choose.specs.Usability.{are_well_formed}
use Rattle.svcb_choose.proofs.usability.are_well_formed.Given as goal

abbrev pub invariant-loop-item : goal.invariant-loop-item
invariant-loop-item l =
    are_well_formed l.params ≡ list_all is_ok (all_items l.item-iterator)
