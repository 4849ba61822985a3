-- Octets in hexadecimal.
use Rattle.std.specs.Prelude.{◌≡◌, ◌<◌, ◌%◌, ℕ, Option, List, length}
use Rattle.std.specs.Result.{result_ok}
use Rattle.hex.specs.Hex.{decode_of}

-- the octets of an even count of hexadecimal digits, in either case
abbrev pub hexadecimal_octets : List ℕ → Option (List ℕ)
hexadecimal_octets text = result_ok (decode_of text)

-- the count of octets is even and not 0
pub record IsInPairs (text : List ℕ) : Type 0 where
  pub some : 0 < length text
  pub even : length text % 2 ≡ 0
