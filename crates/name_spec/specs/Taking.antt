-- What a reader takes of the octets before it.
use Rattle.std.specs.Prelude.{ℕ}

-- a value, and the count of octets that it takes
pub record Taken (Seen : Type 0) : Type 0 where
  pub value : Seen
  pub len : ℕ
