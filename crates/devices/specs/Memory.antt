-- What a source and a sink in memory are.
use Rattle.std.specs.Prelude.{◌≡◌, ℕ, ◌<◌, ◌⊎◌, List, length, Contains}
use Rattle.devices.specs.Counters.{one_more}

-- a source: the octets to come, the most that a read gives, the numbers of the reads that fail,
-- how many reads there were, how many of them gave no octet, and how many failed
pub record MemoryFeed : Type 0 where
  pub left : List ℕ
  pub piece : ℕ
  pub failing : List ℕ
  pub calls : ℕ
  pub empty_reads : ℕ
  pub faults : ℕ

-- a sink: the octets that it holds, the places that are left, the most that a write takes, the
-- numbers of the writes that fail, how many writes there were, how many of them took no octet, and
-- how many failed
pub record MemoryStore : Type 0 where
  pub held : List ℕ
  pub places : ℕ
  pub piece : ℕ
  pub failing : List ℕ
  pub calls : ℕ
  pub empty_writes : ℕ
  pub faults : ℕ

-- the next read is one of those that fail
abbrev pub ReadFails : MemoryFeed → Type 0
ReadFails feed = Contains feed.failing (one_more feed.calls)

-- the next write is one of those that fail, or has octets and no place for them
abbrev pub WriteFails : MemoryStore → List ℕ → Type 0
WriteFails store bytes = Contains store.failing (one_more store.calls)
    ⊎ ((0 < length bytes) × (store.places ≡ 0))
