-- Laws of service parameters.
use Rattle.std.specs.Prelude.{◌≡◌, ◌*◌, ◌<◌, ◌≤◌, ◌↔◌, ◌==◌, ◌++◌, ℕ, true, List, ◌∷◌, length, Some, Result, Ok, IsOk}
use Rattle.std.specs.List.{AllByRecursion}
use Rattle.name_spec.specs.Octets.{Fault}
use Rattle.svcb_spec.specs.Params.{Pairs, wire, IsMap, pairs_wire}
use Rattle.svcb_spec.specs.Values.{Value, key_of, encode, IsValue, is_own_type}
use Rattle.name_spec.specs.Taking.{Taken}
use Rattle.svcb_spec.specs.ReadingValues.{take_value, whole_taken}
use Rattle.svcb_pairs.specs.Parameters.{read_pairs}
use Rattle.svcb_params.specs.Items.{items, all_items, first_value, typed_at}
use Rattle.svcb_pairs.specs.BuilderState.{BuilderState}
use Rattle.svcb_pairs.specs.Pushing.{with_value}

-- octets are read as pairs exactly where they are these pairs, joined, and the keys ascend strictly
abbrev pub ParametersAreLists : Type 0
ParametersAreLists = (octets : List ℕ) (pairs : Pairs) → AllByRecursion (λ octet. octet < 256) octets
    → read_pairs octets ≡ Ok pairs ↔ ((octets ≡ pairs_wire pairs) × IsMap pairs)

-- equal maps have equal octets, and equal octets are of equal maps
abbrev pub EqualByOctets : Type 0
EqualByOctets = (a b : Pairs) → IsMap a → IsMap b → (a ≡ b) ↔ (wire a ≡ wire b)

-- each pair has at least four octets
abbrev pub PairsAreFew : Type 0
PairsAreFew = (pairs : Pairs) → IsMap pairs → 4 * length pairs ≤ length (wire pairs)

-- the first value of a type that takes one key, and reads octets under it as the key's type does,
-- is the value that stands under the key
abbrev pub FirstUnderKey : Type 0
FirstUnderKey = (key : ℕ) (reads : ℕ → List ℕ → Result (Taken Value) Fault)
    → ((octets : List ℕ) → reads key octets ≡ take_value key octets)
    → (pairs : Pairs) → first_value (items (λ k. k == key) reads pairs) ≡ typed_at key pairs

-- a value of its key's type that a builder has taken stands under its key
abbrev pub PushedRead : Type 0
PushedRead = (builder : BuilderState) (value : Value) → IsValue value → is_own_type value ≡ true
    → typed_at (key_of value) (with_value builder value).pairs ≡ Some value

-- a value of its key's type is read among all values where each pair in front of it has a value
abbrev pub AllReadThrough : Type 0
AllReadThrough = (front back : Pairs) (value : Value) → IsValue value → is_own_type value ≡ true
    → AllByRecursion (λ pair. IsOk (whole_taken pair.1 (take_value pair.0 pair.1))) front
    → all_items (front ++ (key_of value, encode value) ∷ back)
    ≡ all_items front ++ Ok value ∷ all_items back
