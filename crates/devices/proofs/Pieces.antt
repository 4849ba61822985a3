-- Pieces that are written one after the other.
use Rattle.std.proofs.Common.{ℕ, ◌+◌, ◌-◌, List, length, take, drop}
use Rattle.std.specs.Prelude.{Option}
use Rattle.std.specs.Io.KnownBytes.{Appends}
use Rattle.std.proofs.KnownBytes.{Appends-trans}
use Rattle.std.proofs.Math.Seq.{take-add}
use Rattle.std.proofs.lemmas.List.{take_rest}

-- the octets before a place, and then some of those behind it
pub appends_next : (a b c : Option (List ℕ)) (bytes : List ℕ) (place count : ℕ)
    → Appends a b (take place bytes)
    → Appends b c (take count (take (length bytes - place) (drop place bytes)))
    → Appends a c (take (place + count) bytes)
appends_next a b c bytes place count before next =
    rw take-add (Appends-trans a b c _ _ before (rw take_rest at next))
