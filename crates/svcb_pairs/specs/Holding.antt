-- The values that the tokens read so far spell, and the map that holds them by their keys.
use Rattle.std.specs.Prelude.{◌≡◌, ℕ, ◌+◌, Bool, true, if◌then◌else◌, List, [], ◌∷◌, ◌++◌, map, Some, None, is_some, is_ok, Result, Ok, Err}
use Rattle.std.specs.List.{list_all, AllByRecursion}
use Rattle.std.specs.Ordering.{nat_cmp}
use Rattle.std.specs.BTreeMap.{is_at}
use Rattle.std.specs.Map.{lookup}
use Rattle.svcb_spec.specs.Params.{Pair, Pairs, IsMap}
use Rattle.svcb_spec.specs.Values.{Value, key_of, encode}
use Rattle.svcb_text.specs.declared.all_values.AllValues.{AllValues}
use Rattle.svcb_text.specs.AllValues.{value_of}
use Rattle.text_spec.specs.declared.errors.ScanError.{ScanError}
use Rattle.text_spec.specs.declared.errors.ScanError.TheVariants.{DuplicateKey, NoMemory}
use Rattle.text_spec.specs.Scanning.{Scan, octets_of, next_token}
use Rattle.svcb_spec.specs.ListTexts.{◌>>=◌}
use Rattle.svcb_spec.specs.ParamTexts.{spells, has_key, mandatory_keys, map_of}

-- values by ascending keys
abbrev pub Entries : Type 0
Entries = List (ℕ × AllValues)

-- a key and the octets of its value
abbrev pub pair_of : ℕ × AllValues → Pair
pair_of entry = (entry.0, encode (value_of entry.1))

abbrev pub pairs_of : Entries → Pairs
pairs_of entries = map pair_of entries

-- The map holds exactly these values, each under its key: its pairs are the map of the values, and
-- what a test tells of all its values is what it tells of these.
pub record Holds (values : List Value) (entries : Entries) : Type 0 where
  pub pairs : pairs_of entries ≡ map_of values
  pub all : (test : Value → Bool) → list_all (λ entry. test (value_of entry.1)) entries
      ≡ list_all test values
  pub keyed : AllByRecursion (λ entry. entry.0 ≡ key_of (value_of entry.1)) entries
  pub is_map : IsMap (pairs_of entries)

-- ---- one value more

-- a value, unless one before it has its key
abbrev pub new_value : List Value → Value → Result Value ScanError
new_value before value = if has_key before (key_of value) then Err DuplicateKey else Ok value

-- the value that a token's octets add to those before it; its own fault comes first
abbrev pub next_value : List Value → List ℕ → Result Value ScanError
next_value before token = spells token >>= new_value before

-- The answer to a value that is read: the map then holds it with those before it, or it is refused
-- by its fault. Only a failed allocation may stand in place of either.
abbrev pub Kept : {X : Type 0} → List Value → Result Value ScanError → Entries
    → Result X ScanError → Type 0
Kept before read entries (Ok done) =
    (value : Value) × (read ≡ Ok value) × Holds (before ++ value ∷ []) entries
Kept before read entries (Err NoMemory) = Unit {0}
Kept before read entries (Err fault) = read ≡ Err fault

-- the answer to a value, whatever values the map held
abbrev pub KeepsValue : {X : Type 0} → Value → Entries → Entries → Result X ScanError → Type 0
KeepsValue value old new result = (before : List Value) → Holds before old
    → Kept before (new_value before value) new result

-- the answer to the octets of a token
abbrev pub KeepsToken : {X : Type 0} → List ℕ → Entries → Entries → Result X ScanError → Type 0
KeepsToken token old new result = (before : List Value) → Holds before old
    → Kept before (next_value before token) new result

-- the answer to the next token, behind which the scanner stands where it is kept
pub record KeepsNext {X : Type 0} (old new : Scan) (entries entries' : Entries)
    (result : Result X ScanError) : Type 0 where
  pub kept : (before : List Value) → Holds before entries
      → Kept before
      (next_token (λ token. next_value before (octets_of token)) old.tokens old.taken) entries'
      result
  pub place : new ≡ record old { taken = if is_ok result then old.taken + 1 else old.taken }

-- ---- all values

-- whether the map has a key
abbrev pub has_entry : Entries → ℕ → Bool
has_entry entries key = is_some (lookup (is_at (nat_cmp key)) entries)

-- whether it has each key that its list of mandatory keys names, where it holds one; such a list
-- has the key 0
abbrev pub has_mandatory : Entries → Bool
has_mandatory entries = elim (lookup (is_at (nat_cmp 0)) entries) [
  | None ↦ true
  | Some value ↦ list_all (has_entry entries) (mandatory_keys (value_of value))
]
