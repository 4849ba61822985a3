-- A registry's table: numbers with their mnemonics.
use Rattle.std.specs.Prelude.{◌≡◌, ℕ, ◌==◌, List, [], ◌∷◌, Bool, true, ◌&&◌, not, Option, Some, None, map, option_map, nat_lt, is_none, if◌then◌else◌}
use Rattle.std.specs.List.{list_any}
use Rattle.std.specs.Char.{to_ascii_lowercase}
use Rattle.std.specs.Cmp.Lexicographic.{pointwise}

-- a text with its ASCII letters in lower case
abbrev pub lower_case : List ℕ → List ℕ
lower_case = map to_ascii_lowercase

-- whether two texts are the same, ASCII case ignored
abbrev pub is_same : List ℕ → List ℕ → Bool
is_same a b = pointwise ◌==◌ (lower_case a) (lower_case b)

-- the mnemonic of a number
abbrev pub mnemonic_of : List (ℕ × List ℕ) → ℕ → Option (List ℕ)
mnemonic_of [] n = None
mnemonic_of (row ∷ rows) n = if row.0 == n then Some row.1 else mnemonic_of rows n

-- the number whose mnemonic a text is, ASCII case ignored
abbrev pub number_of : List (ℕ × List ℕ) → List ℕ → Option ℕ
number_of [] m = None
number_of (row ∷ rows) m = if is_same row.1 m then Some row.0 else number_of rows m

-- whether a text has no line feed
abbrev pub is_one_line : List ℕ → Bool
is_one_line text = not (list_any (λ c. c == 10) text)

-- whether the numbers are below a bound and distinct, and the mnemonics distinct in any case and
-- without a line feed
abbrev pub is_table : ℕ → List (ℕ × List ℕ) → Bool
is_table bound [] = true
is_table bound (row ∷ rows) =
    nat_lt row.0 bound && is_none (mnemonic_of rows row.0) && is_none
    (number_of rows row.1) && is_one_line row.1 && is_table bound rows

-- a mnemonic is read as its number
abbrev pub MnemonicsRead : List (ℕ × List ℕ) → Type 0
MnemonicsRead rows = (n : ℕ) (m : List ℕ) → mnemonic_of rows n ≡ Some m → number_of rows m ≡ Some n

-- what is read as a number is its mnemonic, but for case
abbrev pub NumbersRead : List (ℕ × List ℕ) → Type 0
NumbersRead rows = (m : List ℕ) (n : ℕ) → number_of rows m ≡ Some n
    → option_map lower_case (mnemonic_of rows n) ≡ Some (lower_case m)

-- no mnemonic has a line feed
abbrev pub MnemonicsOneLine : List (ℕ × List ℕ) → Type 0
MnemonicsOneLine rows = (n : ℕ) (m : List ℕ) → mnemonic_of rows n ≡ Some m → is_one_line m ≡ true
