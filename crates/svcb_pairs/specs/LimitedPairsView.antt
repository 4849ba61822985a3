-- Spanned pairs as contracts see them, together with the octets that were read.
use Rattle.std.specs.Prelude.{ℕ, List, ◌++◌, length}
use Rattle.svcb_pairs.specs.BuilderState.{BuilderState}
use Rattle.svcb_pairs.specs.Spans.{limited_pairs, AreSpans}
use Rattle.svcb_pairs.specs.declared.limited_pairs.LimitedPairs.{LimitedPairs}

-- the map and its limit
abbrev pub builder_state : List ℕ → LimitedPairs → BuilderState
builder_state read pairs =
    record {
      pairs = limited_pairs (read ++ pairs.own.items) pairs.spans.entries;
      limit = pairs.limit;
    }

-- the values stand in these octets and the buffer
abbrev pub IsSpanned : List ℕ → LimitedPairs → Type 0
IsSpanned read pairs = AreSpans read pairs.own.items pairs.spans.entries pairs.wire_len pairs.limit

-- how many octets the buffer holds
abbrev pub kept_octets : LimitedPairs → ℕ
kept_octets pairs = length pairs.own.items
