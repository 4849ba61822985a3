-- Pairs whose values stand in one run of octets: octets that were read, and behind them those of a
-- buffer.
use Rattle.std.specs.Prelude.{ℕ, ◌+◌, ◌≤◌, ◌<◌, List, [], ◌∷◌, ◌++◌, length, Result, is_ok, slice_range, if◌then◌else◌}
use Rattle.svcb_spec.specs.Params.{Pairs}
use Rattle.svcb_pairs.specs.BuilderState.{IsBuilderState}
use Rattle.svcb_pairs.specs.declared.span.Span.{Span}

-- keys that ascend, and where their values stand
abbrev pub KeyedSpans : Type 0
KeyedSpans = List (ℕ × Span)

-- the octets of a span
abbrev pub octets_of_span : List ℕ → Span → List ℕ
octets_of_span octets span = slice_range octets span.start (span.start + span.len)

-- the pairs that spans stand for
abbrev pub limited_pairs : List ℕ → KeyedSpans → Pairs
limited_pairs octets [] = []
limited_pairs octets (entry ∷ entries) =
    (entry.0, octets_of_span octets entry.1) ∷ limited_pairs octets entries

-- a span ends within `len` octets, and where it begins in the first `read` of them it ends in these
pub record IsInside (read len : ℕ) (span : Span) : Type 0 where
  pub within : span.start + span.len ≤ len
  pub unbroken : span.start < read → span.start + span.len ≤ read

abbrev pub AreInside : ℕ → ℕ → KeyedSpans → Type 0
AreInside read len [] = Unit {0}
AreInside read len (entry ∷ entries) = IsInside read len entry.1 × AreInside read len entries

-- The spans are a map of so many octets in wire form, within a limit. The octets that were read and
-- those of the buffer are no more.
pub record AreSpans (read own : List ℕ) (spans : KeyedSpans) (wire_len limit : ℕ) : Type 0 where
  pub builder : IsBuilderState (limited_pairs (read ++ own) spans) wire_len limit
  pub inside : AreInside (length read) (length read + length own) spans
  pub fits : length read + length own ≤ wire_len

-- how many octets the buffer holds behind the answer to a push
abbrev pub kept_behind : {E : Type 0} → Result (Unit {0}) E → ℕ → List ℕ → ℕ
kept_behind result kept octets = if is_ok result then kept + length octets else kept
