-- The lines of an input of `edit` that push a value.
use Rattle.std.specs.Prelude.{ℕ, Bool, Option, Some, None, List, [], ◌∷◌, length, take, drop, nat_lt, nat_le, ◌==◌, if◌then◌else◌, codes}
use Rattle.std.specs.Str.{bytes_eq}
use Rattle.svcb_spec.specs.Values.{Value, Unknown}
use Rattle.input_lines.specs.Hexadecimal.{hexadecimal_octets}
use Rattle.input_lines.specs.Lines.{words}
use Rattle.input_lines.specs.Numbers.{decimal_number, max_u16}
use Rattle.input_lines.specs.Options.{◌>>=◌}
use Rattle.edit_program.specs.TokenPushes.{token_push}

-- a number of at most 65,535
abbrev pub key_in_text : List ℕ → Option ℕ
key_in_text text = decimal_number text >>= λ key. if nat_le key max_u16 then Some key else None

-- one octet or more, and at most 65,535
abbrev pub value_octets : List ℕ → Option (List ℕ)
value_octets text = hexadecimal_octets text >>= λ octets.
    if length octets == 0 then None
    else if nat_lt max_u16 (length octets) then None
    else Some octets

-- the value of a key and of what follows it: hexadecimal, or nothing, where the value has no octets
abbrev pub raw_value : ℕ → Option (List ℕ) → Option Value
raw_value key None = Some (Unknown key [])
raw_value key (Some hex) = value_octets hex >>= λ octets. Some (Unknown key octets)

-- `KEY`, or `KEY HEX`
abbrev pub raw_of_words : List (List ℕ) → Option Value
raw_of_words (key ∷ []) = key_in_text key >>= λ number. raw_value number None
raw_of_words (key ∷ hex ∷ []) = key_in_text key >>= λ number. raw_value number (Some hex)
raw_of_words _ = None

-- the line begins with `raw` and a blank
abbrev pub is_raw : List ℕ → Bool
is_raw line = bytes_eq (take 4 line) (codes "raw ")

-- the value that a line pushes; one that begins with `raw` and a blank is only that
abbrev pub push_of : List ℕ → Option Value
push_of line = if is_raw line then raw_of_words (words (drop 4 line)) else token_push line
