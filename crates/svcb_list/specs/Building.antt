-- Octets that are made of items.
use Rattle.std.specs.Prelude.{◌≡◌, ℕ, ◌<◌, ◌%◌, ◌==◌, true, List, length}
use Rattle.std.specs.List.{flat_map, AllByRecursion}

-- octets are those of items in order, each of which has `len`
pub record AreItems {Item : Type 0} (item_octets : Item → List ℕ) (len : ℕ) (items : List Item)
    (octets : List ℕ) : Type 0 where
  pub joined : octets ≡ flat_map item_octets items
  pub each : AllByRecursion (λ item. length (item_octets item) ≡ len) items
  pub whole : (length octets % len == 0) ≡ true
  pub fits : length octets < 65536
