-- An overlay as its callers see it.
use Rattle.std.specs.Prelude.{ℕ}
use Rattle.svcb_pairs.specs.BuilderState.{BuilderState}

-- all parameters, read and added, with the limit, and how many octets the overlay's buffer holds
pub record OverlayState : Type 0 where
  pub builder : BuilderState
  pub kept : ℕ
