-- A builder as its callers see it.
use Rattle.std.specs.Prelude.{◌≡◌, ℕ, ◌-◌, ◌≤◌, ◌<◌, ◌^◌, [], length}
use Rattle.svcb_spec.specs.Params.{Pairs, wire, IsMap}

-- the pairs, and the most octets that they may have in wire form
pub record BuilderState : Type 0 where
  pub pairs : Pairs
  pub limit : ℕ

-- a builder without pairs, with the greatest limit
abbrev pub empty_builder : BuilderState
empty_builder = record { pairs = []; limit = 2 ^ 31 - 1 }

-- the pairs are a map of so many octets, within the limit
pub record IsBuilderState (pairs : Pairs) (len limit : ℕ) : Type 0 where
  pub is_map : IsMap pairs
  pub len_is : len ≡ length (wire pairs)
  pub within : len ≤ limit
  pub in_range : limit < 2 ^ 31
