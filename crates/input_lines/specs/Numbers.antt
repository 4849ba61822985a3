-- Decimal numbers.
use Rattle.std.specs.Prelude.{ℕ, ◌^◌, Option, Some, None, nat_le, nat_lt, ◌&&◌, if◌then◌else◌, List, length}
use Rattle.std.specs.Str.{all_ascii_digits}
use Rattle.std.specs.Str.Parse.{digits_value}

-- one to ten decimal digits and no sign, of a value that fits 32 bits; zeros may lead
abbrev pub decimal_number : List ℕ → Option ℕ
decimal_number text =
    if nat_le 1 (length text) && nat_le (length text) 10 && all_ascii_digits text && nat_lt
    (digits_value 10 text) (2 ^ 32)
    then Some (digits_value 10 text) else None

-- the greatest number of 16 bits
abbrev pub max_u16 : ℕ
max_u16 = 65535
