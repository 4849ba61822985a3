-- Octets that are borrowed for writing.
use Rattle.std.specs.Prelude.{ℕ, List, ◌++◌, length, take, drop}
use Rattle.std.specs.Borrow.{Lends, MutBor, Fml, u8, Array}
use Rattle.wire_base.specs.contracts.octets.Octets.{the_row}

-- octets with others written over them, which leave their count as it is
abbrev pub written_over : List ℕ → List ℕ → List ℕ
written_over octets written = take (length octets) (written ++ drop (length written) octets)

-- the octets end with what is left behind the reference written over them
abbrev pub LendsOctets : MutBor (List ℕ) → MutBor (List ℕ) → Fml
LendsOctets octets lent = Lends the_row (Array u8 0) octets lent (written_over octets.now)
