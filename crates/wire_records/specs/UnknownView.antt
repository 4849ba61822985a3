-- Record data of any type, as its callers see it.
use Rattle.std.specs.Prelude.{ℕ, List}

-- the number of the record's type, and the octets of the data
pub record UnknownData : Type 0 where
  pub rtype : ℕ
  pub octets : List ℕ
