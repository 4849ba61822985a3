-- The lines of an input, and the words of a line.
use Rattle.std.specs.Prelude.{ℕ, ◌==◌, List, [], ◌∷◌, Option, Some, None}
use Rattle.std.specs.List.{slice_split}

-- the pieces between the separators: one more than there are separators
abbrev pub pieces : ℕ → List ℕ → List (List ℕ)
pieces separator bytes = slice_split (λ b. b == separator) bytes

-- the pieces of what is left, if anything is
abbrev pub pieces_of_rest : ℕ → Option (List ℕ) → List (List ℕ)
pieces_of_rest separator None = []
pieces_of_rest separator (Some rest) = pieces separator rest

-- all but a last piece that is empty
abbrev pub without_empty_last : List (List ℕ) → List (List ℕ)
without_empty_last [] = []
without_empty_last ([] ∷ []) = []
without_empty_last (piece ∷ more) = piece ∷ without_empty_last more

-- the lines: the pieces between LFs, without an empty last piece
abbrev pub lines : List ℕ → List (List ℕ)
lines bytes = without_empty_last (pieces 10 bytes)

-- the words of a line, which single blanks join; two blanks in a row have an empty word between
-- them
abbrev pub words : List ℕ → List (List ℕ)
words line = pieces 32 line
