-- What is taken of the octets that a source has left.
use Rattle.std.specs.Prelude.{◌≡◌, ℕ, ◌+◌, ◌≤◌, Option, Some, None, List, length, is_some, ⊤}
use Rattle.std.specs.Io.KnownBytes.{Consumes}

-- at most so many octets, where the source tells them
abbrev pub TakesAtMost : Option (List ℕ) → Option (List ℕ) → ℕ → Type 0
TakesAtMost None new most = ⊤
TakesAtMost (Some xs) None most = ⊥
TakesAtMost (Some xs) (Some ys) most = length xs ≤ length ys + most

-- some octets from the front, so that those behind them are left
abbrev pub TakesFront : Option (List ℕ) → Option (List ℕ) → Type 0
TakesFront old new = (taken : List ℕ) × Consumes old new taken

-- Some octets are taken from the front, and at most so many. A source that tells its octets goes on
-- to tell them.
pub record TakesInput (old new : Option (List ℕ)) (limit : ℕ) : Type 0 where
  pub most : TakesAtMost old new limit
  pub front : TakesFront old new
  pub keeps_telling : is_some new ≡ is_some old
