-- What a parser reads: the octets of a message from a place up to an end.
use Rattle.std.specs.Prelude.{ℕ, List, slice_range}

pub record Input : Type 0 where
  pub message : List ℕ
  pub end : ℕ
  pub pos : ℕ

-- the octets from the place to the end
abbrev pub octets_left : Input → List ℕ
octets_left input = slice_range input.message input.pos input.end
