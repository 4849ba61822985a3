-- A record of a zone, as its callers see it.
use Rattle.std.specs.Prelude.{ℕ, List}
use Rattle.wire_records.specs.UnknownView.{UnknownData}

-- the labels of its owner, the numbers of its class and TTL, its type and data
pub record ZoneRecordView : Type 0 where
  pub owner : List (List ℕ)
  pub class : ℕ
  pub ttl : ℕ
  pub record_data : UnknownData
