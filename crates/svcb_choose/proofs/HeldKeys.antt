-- Keys that pairs have, by walks over both in ascending order.
use Rattle.std.proofs.Common.{◌≡◌, ℕ, ◌+◌, ◌<◌, ◌≤◌, Bool, true, false, ◌||◌, List, [], ◌∷◌, refl, sym, ap, ◌∙◌, subst, arith}
use Rattle.std.specs.Prelude.{◌==◌, ◌&&◌, nat_lt}
use Rattle.std.specs.List.{list_all}
use Rattle.std.proofs.lemmas.Bool.{and_left, and_right, and_parts, ltb-true}
use Rattle.std.proofs.lemmas.Bool.Decides.{nat_tests}
use Rattle.svcb_spec.specs.Params.{Pair, Pairs, IsMap, Ascends}
use Rattle.svcb_spec.specs.Values.{Value, Unknown, key_of, encode}
use Rattle.svcb_spec.specs.PrintedParams.{holds_key, ascends_above}
use Rattle.svcb_params.specs.Items.{raw_values}

-- ---- a walk over pairs

same_pair : (p q : Pair) → p.0 ≡ q.0 → p.1 ≡ q.1 → p ≡ q
same_pair p q key octets =
    let with_key : ℕ → Pair = λ k. (k, p.1) in
    let with_octets : List ℕ → Pair = λ o. (q.0, o) in
    ap with_key key ∙ ap with_octets octets

same_pairs : (a b : Pairs) → raw_values a ≡ raw_values b → a ≡ b
same_pairs [] [] e = refl
same_pairs [] (q ∷ b) e = cc
same_pairs (p ∷ a) [] e = cc
same_pairs (p ∷ a) (q ∷ b) e =
    let others : raw_values a ≡ raw_values b = cc in
    let is : a ≡ b = same_pairs a b others in
    let key : p.0 ≡ q.0 = cc in
    let octets : p.1 ≡ q.1 = cc in
    cc (same_pair p q key octets)

-- pairs whose first value is this one begin with its pair
pub first_pair : (old new : Pairs) (value : Value) → raw_values old ≡ value ∷ raw_values new
    → old ≡ (key_of value, encode value) ∷ new
first_pair [] new value e = cc
first_pair (p ∷ old) new value e =
    let is : value ≡ Unknown p.0 p.1 = cc in
    let others : raw_values old ≡ raw_values new = cc in
    let behind : old ≡ new = same_pairs old new others in
    let first : p ≡ (key_of value, encode value) =
    same_pair p (key_of value, encode value) (sym (ap key_of is)) (sym (ap encode is)) in
    cc

-- no pair has a key below the least
none_below : (pairs : Pairs) (least key : ℕ) → Ascends least pairs → key < least
    → holds_key pairs key ≡ false
none_below [] least key up low = refl
none_below (pair ∷ pairs) least key up low =
    let apart : (pair.0 == key) ≡ false = grind (arith, nat_tests, up.0) in
    ap (λ b. b || holds_key pairs key) apart
    ∙ none_below pairs (pair.0 + 1) key up.3 (omega (arith, up.0))

from_lower : (pairs : Pairs) (least : ℕ) → Ascends least pairs → IsMap pairs
from_lower [] least up = up
from_lower (pair ∷ pairs) least up = (omega arith, up.1, up.2, up.3)

-- Pairs, and those behind the first of them, whose value is this one.
module _ (old new : Pairs) (value : Value) (first : raw_values old ≡ value ∷ raw_values new) where
  is : old ≡ (key_of value, encode value) ∷ new
  is = first_pair old new value first

  others_above : IsMap old → Ascends (key_of value + 1) new
  others_above map = (subst IsMap is map).3

  -- the others are a map
  pub others_are_map : IsMap old → IsMap new
  others_are_map map = from_lower new (key_of value + 1) (others_above map)

  -- no pair has a key below that of the first
  pub not_here : (key : ℕ) → IsMap old → key < key_of value → holds_key old key ≡ false
  not_here key map up =
      let apart : (key_of value == key) ≡ false = grind (arith, nat_tests) in
      let none : holds_key new key ≡ false =
      none_below new (key_of value + 1) key (others_above map) (omega arith) in
      ap (λ ps. holds_key ps key) is ∙ ap (λ b. b || holds_key new key) apart ∙ none

  -- the first pair has its key
  pub is_here : (key : ℕ) → key_of value ≡ key → holds_key old key ≡ true
  is_here key same =
      let equal : (key_of value == key) ≡ true = grind (arith, nat_tests) in
      ap (λ ps. holds_key ps key) is ∙ ap (λ b. b || holds_key new key) equal

  -- the others have what is above its key
  pub passed_by : (above : ℕ) → key_of value < above
      → holds_key new above ≡ holds_key old above
  passed_by above up =
      let apart : (key_of value == above) ≡ false = grind (arith, nat_tests) in
      sym (ap (λ ps. holds_key ps above) is ∙ ap (λ b. b || holds_key new above) apart)

-- where no value is left there is no key
pub none_left : (pairs : Pairs) (key : ℕ) → raw_values pairs ≡ [] → false ≡ holds_key pairs key
none_left [] key e = refl
none_left (pair ∷ pairs) key e = absurd cc

pub none_is_map : (pairs : Pairs) → raw_values pairs ≡ [] → IsMap pairs
none_is_map [] e = tt
none_is_map (pair ∷ pairs) e = absurd cc

pub ruleset passing_rules = (others_are_map, not_here, is_here, passed_by, none_left, none_is_map)

-- ---- a walk over keys

-- keys ascend from above a number, and pairs have each
abbrev pub are_there_above : ℕ → Pairs → List ℕ → Bool
are_there_above least pairs keys = ascends_above least keys && list_all (holds_key pairs) keys

-- a key that isn't above the one before
pub not_above : (least key : ℕ) (keys : List ℕ) (pairs : Pairs) → key ≤ least
    → are_there_above least pairs (key ∷ keys) ≡ false
not_above least key keys pairs low =
    let low : nat_lt least key ≡ false = grind (arith, nat_tests) in
    and_left _ _ (ap (λ b. b && ascends_above key keys) low)

-- a key that no pair has
pub not_there : (least key : ℕ) (keys : List ℕ) (pairs : Pairs) → holds_key pairs key ≡ false
    → are_there_above least pairs (key ∷ keys) ≡ false
not_there least key keys pairs none =
    and_right _ _ (ap (λ b. b && list_all (holds_key pairs) keys) none)

module _ (pairs rest : Pairs) where
  -- keys above a number are looked up in the pairs behind it
  behind_it : (key : ℕ) (keys : List ℕ)
      → ((above : ℕ) → key < above → holds_key rest above ≡ holds_key pairs above)
      → ascends_above key keys ≡ true
      → list_all (holds_key pairs) keys ≡ list_all (holds_key rest) keys
  behind_it key [] same up = refl
  behind_it key (next ∷ keys) same up =
      let parts = and_parts (nat_lt key next) (ascends_above next keys) up in
      let is_above : key < next = ltb-true key next parts.0 in
      ap (λ b. b && list_all (holds_key pairs) keys) (sym (same next is_above))
      ∙ ap (λ b. holds_key rest next && b)
      (behind_it next keys (λ above over. same above (omega (arith, is_above, over))) parts.1)

  one_there : (key : ℕ) (keys : List ℕ) (b : Bool) → ascends_above key keys ≡ b
      → ((above : ℕ) → key < above → holds_key rest above ≡ holds_key pairs above)
      → (b && list_all (holds_key pairs) keys) ≡ (b && list_all (holds_key rest) keys)
  one_there key keys true up same = behind_it key keys same up
  one_there key keys false up same = refl

  -- a key that is above the one before, and that a pair has
  pub next_there : (least key : ℕ) (keys : List ℕ) → least < key → holds_key pairs key ≡ true
      → ((above : ℕ) → key < above → holds_key rest above ≡ holds_key pairs above)
      → are_there_above least pairs (key ∷ keys) ≡ are_there_above key rest keys
  next_there least key keys up found same =
      let is_up : nat_lt least key ≡ true = grind (arith, nat_tests) in
      ap (λ b. (b && ascends_above key keys) && list_all (holds_key pairs) (key ∷ keys)) is_up
      ∙ ap (λ b. ascends_above key keys && (b && list_all (holds_key pairs) keys)) found
      ∙ one_there key keys (ascends_above key keys) refl same

pub ruleset there_rules = (not_above, not_there, next_there)
