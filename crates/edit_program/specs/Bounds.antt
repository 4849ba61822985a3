-- The first line of an input of `edit`.
use Rattle.std.specs.Prelude.{ℕ, Option, Some, None, List, [], ◌∷◌}
use Rattle.input_lines.specs.Lines.{words}
use Rattle.input_lines.specs.Options.{◌>>=◌}
use Rattle.input_lines.specs.Numbers.{decimal_number}
use Rattle.edit_program.specs.declared.data_bounds.DataBounds.{DataBounds}

-- three numbers
abbrev pub data_bounds_of_words : List (List ℕ) → Option DataBounds
data_bounds_of_words (start ∷ len ∷ limit ∷ []) = do
  first ← decimal_number start
  count ← decimal_number len
  most ← decimal_number limit
  Some (record { start = first; len = count; limit = most })
data_bounds_of_words _ = None

-- `START LEN LIMIT`
abbrev pub data_bounds_of : List ℕ → Option DataBounds
data_bounds_of line = data_bounds_of_words (words line)
