-- The values of one type among service parameters.
use Rattle.std.specs.Prelude.{◌≡◌, ◌==◌, ℕ, Bool, true, List, [], ◌∷◌, map, Option, None, Some, is_some, option_map, Result, Ok, Err, if◌then◌else◌}
use Rattle.std.specs.Result.{result_ok}
use Rattle.name_spec.specs.Octets.{Fault}
use Rattle.svcb_spec.specs.Params.{Pairs, value_at}
use Rattle.svcb_spec.specs.Values as values
use Rattle.name_spec.specs.Taking.{Taken}
use Rattle.svcb_spec.specs.ReadingValues.{take_value, whole_taken}
use Rattle.wire_base.specs.Faults.{error_of}
use Rattle.wire_base.specs.declared.errors.ParseError.{ParseError}

-- a value in front of the items that follow it; nothing follows a fault
abbrev pub with_item : {Seen : Type 0} → Result Seen Fault → List (Result Seen ParseError)
    → List (Result Seen ParseError)
with_item (Ok value) others = Ok value ∷ others
with_item (Err fault) others = Err (error_of fault) ∷ []

-- The items of a type that takes some keys: for each pair of such a key, in order, the value that
-- its octets wholly are, or their fault, behind which the list ends.
abbrev pub items : {Seen : Type 0} → (ℕ → Bool) → (ℕ → List ℕ → Result (Taken Seen) Fault) → Pairs
    → List (Result Seen ParseError)
items takes reads [] = []
items takes reads (pair ∷ pairs) =
    if takes pair.0
    then with_item (whole_taken pair.1 (reads pair.0 pair.1)) (items takes reads pairs)
    else items takes reads pairs

-- the items of the type of all values, which takes each key
abbrev pub all_items : Pairs → List (Result values.Value ParseError)
all_items = items (λ key. true) take_value

-- the first item, where it is a value
abbrev pub first_value : {Seen : Type 0} → List (Result Seen ParseError) → Option Seen
first_value [] = None
first_value (Ok value ∷ others) = Some value
first_value (Err error ∷ others) = None

-- the value that octets wholly are, where there are octets
abbrev pub whole_value_in : {Seen : Type 0} → (List ℕ → Result (Taken Seen) Fault)
    → Option (List ℕ) → Option Seen
whole_value_in reads None = None
whole_value_in reads (Some octets) = result_ok (whole_taken octets (reads octets))

-- the same of a value of a key's type
abbrev pub typed_value : ℕ → Option (List ℕ) → Option values.Value
typed_value key = whole_value_in (take_value key)

-- the value of a key's type that stands under the key
abbrev pub typed_at : ℕ → Pairs → Option values.Value
typed_at key pairs = typed_value key (value_at pairs key)

-- a value, as `seen` shows it, is the one of the key's type that stands under the key
abbrev pub IsTypedAt : {V : Type 0} → ℕ → Pairs → Option V → (V → values.Value) → Type 0
IsTypedAt key pairs result seen = option_map seen result ≡ typed_at key pairs

-- a type takes one key alone
abbrev pub TakesOnly : (ℕ → Bool) → ℕ → Type 0
TakesOnly takes key = (other : ℕ) → takes other ≡ (other == key)

-- A value is the first of its type. Where the type takes one key alone, it is the value that stands
-- under that key.
pub record IsFirst {V Seen : Type 0} (seen : V → Seen) (takes : ℕ → Bool)
    (reads : ℕ → List ℕ → Result (Taken Seen) Fault) (pairs : Pairs)
    (result : Option V) : Type 0 where
  pub first : option_map seen result ≡ first_value (items takes reads pairs)
  pub under_key : (key : ℕ) → TakesOnly takes key
      → option_map seen result ≡ whole_value_in (reads key) (value_at pairs key)
  pub is_there : (key : ℕ) → TakesOnly takes key
      → is_some result ≡ is_some (whole_value_in (reads key) (value_at pairs key))

-- all pairs in order, whatever their types
abbrev pub raw_values : Pairs → List values.Value
raw_values = map (λ pair. values.Unknown pair.0 pair.1)
