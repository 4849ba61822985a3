use Rattle.std.proofs.Common.{◌≡◌, length}
use Rattle.svcb_spec.specs.ListTexts.{comma_items}
use Rattle.svcb_text.specs.Items.{items_left}
use Rattle.svcb_text.specs.Lists.{add_items}
use Rattle.svcb_text.proofs.item_loop.add_items.Given as goal

abbrev pub invariant-loop-item : goal.invariant-loop-item
invariant-loop-item g l =
    add_items g.L.TakesItems.adds (g.L.TakesItems.seen l.initial.list) (comma_items l.text)
    ≡ add_items g.L.TakesItems.adds (g.L.TakesItems.seen l.list) (items_left l.items)

abbrev pub decreases-loop-item : goal.decreases-loop-item
decreases-loop-item g l = length (items_left l.items)
