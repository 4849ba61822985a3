use Rattle.std.proofs.Common.{◌≡◌, length, take}
use Rattle.std.specs.List.{flat_map, AllByRecursion}
use Rattle.svcb_list.proofs.fixed_item.append_items.Given as goal

abbrev pub invariant-loop-item : goal.invariant-loop-item
invariant-loop-item g l = record {
  written : l.octets.items ≡ flat_map g.I.FixedItem.octets (take l.item-index l.items);
  each : AllByRecursion (λ item. length (g.I.FixedItem.octets item) ≡ g.I.FixedItem.LEN)
      (take l.item-index l.items);
}
