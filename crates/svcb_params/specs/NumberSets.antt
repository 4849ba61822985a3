-- Sets of numbers as bits.
use Rattle.std.specs.Prelude.{ℕ, ◌/◌, ◌%◌, ◌^◌, ◌==◌, Bool, not, List, slice_index}
use lib.Bits.{bit_and}

-- whether a number's bit is set: bit `n % 64` of the word `n / 64`
abbrev pub has_number : List ℕ → ℕ → Bool
has_number words n = not (bit_and (slice_index words (n / 64)) (2 ^ (n % 64)) == 0)
