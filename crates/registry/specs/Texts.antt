-- The texts of a registry's numbers.
use Rattle.std.specs.Prelude.{ℕ, List, [], ◌∷◌, ◌++◌, Bool, false, ◌&&◌, not, Option, Some, None, codes, take, drop, nat_lt, unwrap_or, if◌then◌else◌}
use Rattle.std.specs.List.{list_all}
use Rattle.std.specs.Option.{option_or}
use Rattle.std.specs.Fmt.{decimal}
use Rattle.std.specs.Str.{all_ascii_digits}
use Rattle.std.specs.Str.Parse.{digits_value, without_leading_plus}
use Rattle.registry.specs.Tables.{is_same, mnemonic_of, number_of, is_table}

-- whether a text is one or more decimal digits
abbrev pub is_numeral : List ℕ → Bool
is_numeral [] = false
is_numeral (c ∷ cs) = all_ascii_digits (c ∷ cs)

-- the value of decimal digits, if it is below a bound
abbrev pub numeral_below : ℕ → List ℕ → Option ℕ
numeral_below bound ds = if is_numeral ds && nat_lt (digits_value 10 ds) bound
    then Some (digits_value 10 ds) else None

-- the number below a bound that a text spells: an optional `+`, then one or more decimal digits
abbrev pub spelled_number : ℕ → List ℕ → Option ℕ
spelled_number bound text = numeral_below bound (without_leading_plus text)

-- whether a text begins with `key` in any case
abbrev pub begins_with_key : List ℕ → Bool
begins_with_key text = is_same (take 3 text) (codes "key")

-- the number that a text spells behind `key`
abbrev pub generic_key : List ℕ → Option ℕ
generic_key text = if begins_with_key text then spelled_number 65536 (drop 3 text) else None

-- the key of a service parameter that a text spells: a mnemonic, else `key` and a number (RFC 9460,
-- section 2.1)
abbrev pub spelled_key : List (ℕ × List ℕ) → List ℕ → Option ℕ
spelled_key rows text = option_or (number_of rows text) (generic_key text)

-- the text of a key: its mnemonic, else `key` and its number
abbrev pub printed_key : List (ℕ × List ℕ) → ℕ → List ℕ
printed_key rows n = unwrap_or (mnemonic_of rows n) (codes "key" ++ decimal n)

-- whether a table is one of keys: no mnemonic begins with `key` (RFC 9460, section 14.3.1)
abbrev pub is_key_table : List (ℕ × List ℕ) → Bool
is_key_table rows = is_table 65536 rows && list_all (λ row. not (begins_with_key row.1)) rows
