-- A text has at least one piece between its commas.
use Rattle.std.proofs.Common.{ℕ, ◌<◌, true, false, cond, List, [], ◌∷◌, length, arith}
use Rattle.std.specs.Prelude.{◌==◌}
use Rattle.svcb_spec.specs.ListTexts.{onto_piece, comma_pieces}

pub onto_piece-some : (c : ℕ) (pieces : List (List ℕ)) → 0 < length (onto_piece c pieces)
onto_piece-some c [] = omega arith
onto_piece-some c (piece ∷ pieces) = omega arith

pub some_pieces : (text : List ℕ) → 0 < length (comma_pieces text)
some_pieces [] = omega arith
some_pieces (c ∷ text) =
    elim (c == 44) as
    (λ b. 0 < length (cond b ([] ∷ comma_pieces text) (onto_piece c (comma_pieces text)))) [
      | true ↦ omega arith
      | false ↦ onto_piece-some c (comma_pieces text)
    ]
