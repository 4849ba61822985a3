-- Entries and pairs that are put among others by their keys.
use Rattle.std.proofs.Common.{◌≡◌, ◌≢◌, ℕ, ◌<◌, ◌≤◌, Bool, true, false, cond, ◌&&◌, ◌||◌, List, [], ◌∷◌, ◌++◌, Option, Some, None, refl, sym, ap, ◌∙◌, arith, inl, inr, Less, Equal, Greater}
use Rattle.std.specs.Prelude.{◌==◌, nat_le, is_some}
use Rattle.std.specs.List.{list_all, AllByRecursion}
use Rattle.std.specs.Ordering.{nat_cmp}
use Rattle.std.specs.Cmp.{nat_cmp_is}
use Rattle.std.specs.BTreeMap.{is_at, insert_entry}
use Rattle.std.specs.Map.{lookup}
use Rattle.std.proofs.lemmas.Bool.{cases_lt, cases_eq}
use Rattle.std.proofs.lemmas.Bool.Decides.{nat_tests}
use Rattle.svcb_spec.specs.Params.{Pair, Pairs, value_at}
use Rattle.svcb_spec.specs.Values.{Value, key_of, encode}
use Rattle.svcb_text.specs.declared.all_values.AllValues.{AllValues}
use Rattle.svcb_text.specs.AllValues.{value_of}
use Rattle.svcb_spec.specs.ParamTexts.{has_key, insert_pair, map_of}
use Rattle.svcb_pairs.specs.Holding.{Entries, pair_of, pairs_of, has_entry}

at_most : (a b : ℕ) → a ≤ b → nat_le a b ≡ true
at_most a b is = grind (arith, nat_tests)

above : (a b : ℕ) → b < a → nat_le a b ≡ false
above a b is = grind (arith, nat_tests)

same_number : (a b : ℕ) → a ≡ b → (a == b) ≡ true
same_number a b is = grind (arith, nat_tests)

other_number : (a b : ℕ) → (a == b) ≡ false → a ≢ b
other_number a b is same = grind (arith, nat_tests)

no_number : (a b : ℕ) → a ≢ b → (a == b) ≡ false
no_number a b apart = grind (arith, nat_tests)

or_swap : (a b c : Bool) → (a || (b || c)) ≡ (b || (a || c))
or_swap true true c = refl
or_swap true false c = refl
or_swap false b c = refl

and_swap : (a b c : Bool) → (a && (b && c)) ≡ (b && (a && c))
and_swap true b c = refl
and_swap false true c = refl
and_swap false false c = refl

-- ---- what stands under a key

module _ {X : Type 0} (key : ℕ) (entry : ℕ × X) (entries : List (ℕ × X)) where
  pub first_found : key ≡ entry.0 → lookup (is_at (nat_cmp key)) (entry ∷ entries) ≡ Some entry.1
  first_found same = rw (← nat_cmp_is key entry.0 Equal same) refl

  pub first_passed : key ≢ entry.0
      → lookup (is_at (nat_cmp key)) (entry ∷ entries) ≡ lookup (is_at (nat_cmp key)) entries
  first_passed apart = grind (arith, nat_tests)

  absent_first : lookup (is_at (nat_cmp key)) (entry ∷ entries) ≡ None → key ≢ entry.0
  absent_first absent same = let found = first_found same in cc

  absent_rest : lookup (is_at (nat_cmp key)) (entry ∷ entries) ≡ None
      → lookup (is_at (nat_cmp key)) entries ≡ None
  absent_rest absent = sym (first_passed (absent_first absent)) ∙ absent

-- an entry of a new key among others: before the first, or behind it
module _ {X : Type 0} (key : ℕ) (x : X) (entry : ℕ × X) (entries : List (ℕ × X)) where
  insert_before : key < entry.0
      → insert_entry nat_cmp (entry ∷ entries) key x ≡ (key, x) ∷ entry ∷ entries
  insert_before below = rw (← nat_cmp_is key entry.0 Less below) refl

  insert_behind : entry.0 < key
      → insert_entry nat_cmp (entry ∷ entries) key x ≡ entry ∷ insert_entry nat_cmp entries key x
  insert_behind higher = rw (← nat_cmp_is key entry.0 Greater higher) refl

-- what holds of each entry, behind one of a new key
pub each-insert : {X : Type 0} (P : ℕ × X → Type 0) (key : ℕ) (x : X) (entries : List (ℕ × X))
    → lookup (is_at (nat_cmp key)) entries ≡ None
    → P (key, x) → AllByRecursion P entries → AllByRecursion P (insert_entry nat_cmp entries key x)
each-insert P key x [] absent here each = (here, tt)
each-insert P key x (entry ∷ entries) absent here each = elim (cases_lt key entry.0) [
  | inl below ↦ rw (insert_before key x entry entries below) (here, each)
  | inr other ↦
      let apart = absent_first key entry entries absent in
      let higher : entry.0 < key = omega arith in
      rw (insert_behind key x entry entries higher)
      (each.0, each-insert P key x entries (absent_rest key entry entries absent) here each.1)
]

-- a test of all entries, one of a new key among them
pub list_all-insert : {X : Type 0} (test : ℕ × X → Bool) (key : ℕ) (x : X) (entries : List (ℕ × X))
    → lookup (is_at (nat_cmp key)) entries ≡ None
    → list_all test (insert_entry nat_cmp entries key x) ≡ (test (key, x) && list_all test entries)
list_all-insert test key x [] absent = refl
list_all-insert test key x (entry ∷ entries) absent = elim (cases_lt key entry.0) [
  | inl below ↦ ap (list_all test) (insert_before key x entry entries below)
  | inr other ↦
      let apart = absent_first key entry entries absent in
      let higher : entry.0 < key = omega arith in
      ap (list_all test) (insert_behind key x entry entries higher)
      ∙ ap (λ rest. test entry && rest)
      (list_all-insert test key x entries (absent_rest key entry entries absent))
      ∙ and_swap (test entry) (test (key, x)) (list_all test entries)
]

-- ---- pairs

module _ (pair other : Pair) (pairs : Pairs) where
  pair_before : pair.0 ≤ other.0 → insert_pair pair (other ∷ pairs) ≡ pair ∷ other ∷ pairs
  pair_before most =
      ap (λ b. cond b (pair ∷ other ∷ pairs) (other ∷ insert_pair pair pairs))
      (at_most pair.0 other.0 most)

  pair_behind : other.0 < pair.0 → insert_pair pair (other ∷ pairs) ≡ other ∷ insert_pair pair pairs
  pair_behind higher =
      ap (λ b. cond b (pair ∷ other ∷ pairs) (other ∷ insert_pair pair pairs))
      (above pair.0 other.0 higher)

-- a pair of a new key is put where a map has it
insert_new : (key : ℕ) (octets : List ℕ) (pairs : Pairs) → value_at pairs key ≡ None
    → insert_entry nat_cmp pairs key octets ≡ insert_pair (key, octets) pairs
insert_new key octets [] absent = refl
insert_new key octets (pair ∷ pairs) absent = elim (cases_lt key pair.0) [
  | inl below ↦ insert_before key octets pair pairs below
      ∙ sym (pair_before (key, octets) pair pairs (omega arith))
  | inr other ↦
      let apart = absent_first key pair pairs absent in
      let higher : pair.0 < key = omega arith in
      insert_behind key octets pair pairs higher
      ∙ ap (λ (rest : Pairs). pair ∷ rest)
      (insert_new key octets pairs (absent_rest key pair pairs absent))
      ∙ sym (pair_behind (key, octets) pair pairs higher)
]

-- two pairs of different keys, the lower one in front
module _ (p q : Pair) (apart : p.0 < q.0) where
  two_pairs : (pairs : Pairs)
      → insert_pair p (insert_pair q pairs) ≡ insert_pair q (insert_pair p pairs)
  two_pairs [] = pair_before p q [] (omega arith) ∙ sym (pair_behind q p [] apart)
  two_pairs (other ∷ pairs) = elim (cases_lt other.0 q.0) [
    | inl q_higher ↦ elim (cases_lt other.0 p.0) [
      | inl p_higher ↦
          ap (insert_pair p) (pair_behind q other pairs q_higher)
          ∙ pair_behind p other (insert_pair q pairs) p_higher
          ∙ ap (λ (rest : Pairs). other ∷ rest) (two_pairs pairs)
          ∙ sym (ap (insert_pair q) (pair_behind p other pairs p_higher)
          ∙ pair_behind q other (insert_pair p pairs) q_higher)
      | inr p_most ↦
          ap (insert_pair p) (pair_behind q other pairs q_higher)
          ∙ pair_before p other (insert_pair q pairs) p_most
          ∙ sym (ap (insert_pair q) (pair_before p other pairs p_most)
          ∙ pair_behind q p (other ∷ pairs) apart
          ∙ ap (λ (rest : Pairs). p ∷ rest) (pair_behind q other pairs q_higher))
    ]
    | inr q_most ↦
        ap (insert_pair p) (pair_before q other pairs q_most)
        ∙ pair_before p q (other ∷ pairs) (omega arith)
        ∙ sym (ap (insert_pair q) (pair_before p other pairs (omega arith))
        ∙ pair_behind q p (other ∷ pairs) apart
        ∙ ap (λ (rest : Pairs). p ∷ rest) (pair_before q other pairs q_most))
  ]

-- pairs of different keys are put in any order
insert_swap : (p q : Pair) (pairs : Pairs) → p.0 ≢ q.0
    → insert_pair p (insert_pair q pairs) ≡ insert_pair q (insert_pair p pairs)
insert_swap p q pairs apart = elim (cases_lt p.0 q.0) [
  | inl lower ↦ two_pairs p q lower pairs
  | inr other ↦ sym (two_pairs q p (omega arith) pairs)
]

-- ---- the map of values

-- a value of a new key behind others
pub map_of-append : (before : List Value) (value : Value) → has_key before (key_of value) ≡ false
    → map_of (before ++ value ∷ []) ≡ insert_pair (key_of value, encode value) (map_of before)
map_of-append [] value new = refl
map_of-append (first ∷ before) value new =
    elim (key_of first == key_of value) as (λ b. (key_of first == key_of value) ≡ b
    → (b || has_key before (key_of value)) ≡ false
    → insert_pair (key_of first, encode first) (map_of (before ++ value ∷ []))
    ≡ insert_pair (key_of value, encode value) (map_of (first ∷ before))) [
      | true ↦ λ is none. absurd cc
      | false ↦ λ is none.
          ap (insert_pair (key_of first, encode first)) (map_of-append before value none)
          ∙ insert_swap (key_of first, encode first) (key_of value, encode value) (map_of before)
          (other_number (key_of first) (key_of value) is)
    ] refl new

-- whether there is a value under a key
module _ (key : ℕ) where
  some_first : (pair : Pair) (pairs : Pairs)
      → is_some (value_at (pair ∷ pairs) key) ≡ ((pair.0 == key) || is_some (value_at pairs key))
  some_first pair pairs = elim (cases_eq key pair.0) [
    | inl same ↦ ap is_some (first_found key pair pairs same)
        ∙ sym (ap (λ b. b || is_some (value_at pairs key)) (same_number pair.0 key (sym same)))
    | inr apart ↦ ap is_some (first_passed key pair pairs apart)
        ∙ sym (ap (λ b. b || is_some (value_at pairs key))
        (no_number pair.0 key (λ same. apart (sym same))))
  ]

  some-insert : (pair : Pair) (pairs : Pairs)
      → is_some (value_at (insert_pair pair pairs) key)
      ≡ ((pair.0 == key) || is_some (value_at pairs key))
  some-insert pair [] = some_first pair []
  some-insert pair (other ∷ pairs) = elim (cases_lt other.0 pair.0) [
    | inl higher ↦
        ap (λ (found : Pairs). is_some (value_at found key)) (pair_behind pair other pairs higher)
        ∙ some_first other (insert_pair pair pairs)
        ∙ ap (λ b. (other.0 == key) || b) (some-insert pair pairs)
        ∙ or_swap (other.0 == key) (pair.0 == key) (is_some (value_at pairs key))
        ∙ sym (ap (λ b. (pair.0 == key) || b) (some_first other pairs))
    | inr most ↦
        ap (λ (found : Pairs). is_some (value_at found key)) (pair_before pair other pairs most)
        ∙ some_first pair (other ∷ pairs)
  ]

  pub some-map_of : (values : List Value)
      → is_some (value_at (map_of values) key) ≡ has_key values key
  some-map_of [] = refl
  some-map_of (value ∷ values) =
      some-insert (key_of value, encode value) (map_of values)
      ∙ ap (λ b. (key_of value == key) || b) (some-map_of values)

  pub some-pairs_of : (entries : Entries)
      → has_entry entries key ≡ is_some (value_at (pairs_of entries) key)
  some-pairs_of [] = refl
  some-pairs_of (entry ∷ entries) =
      elim (is_at (nat_cmp key) entry.0) as
      (λ found. is_some (cond found (Some entry.1) (lookup (is_at (nat_cmp key)) entries))
      ≡ is_some (cond found (Some (encode (value_of entry.1))) (value_at (pairs_of entries) key))) [
        | true ↦ refl
        | false ↦ some-pairs_of entries
      ]

-- the pairs of entries, one of a new key among them
pub pairs_of-insert : (key : ℕ) (value : AllValues) (entries : Entries)
    → lookup (is_at (nat_cmp key)) entries ≡ None
    → pairs_of (insert_entry nat_cmp entries key value)
    ≡ insert_entry nat_cmp (pairs_of entries) key (encode (value_of value))
pairs_of-insert key value [] absent = refl
pairs_of-insert key value (entry ∷ entries) absent = elim (cases_lt key entry.0) [
  | inl below ↦
      ap pairs_of (insert_before key value entry entries below)
      ∙ sym (insert_before key (encode (value_of value)) (pair_of entry) (pairs_of entries) below)
  | inr other ↦
      let apart = absent_first key entry entries absent in
      let higher : entry.0 < key = omega arith in
      ap pairs_of (insert_behind key value entry entries higher)
      ∙ ap (λ (rest : Pairs). pair_of entry ∷ rest)
      (pairs_of-insert key value entries (absent_rest key entry entries absent))
      ∙ sym (insert_behind key (encode (value_of value)) (pair_of entry) (pairs_of entries) higher)
]

pub insert_new_pair : (key : ℕ) (octets : List ℕ) (pairs : Pairs)
    → is_some (value_at pairs key) ≡ false
    → insert_entry nat_cmp pairs key octets ≡ insert_pair (key, octets) pairs
insert_new_pair key octets pairs none =
    insert_new key octets pairs (nothing (value_at pairs key) none)
  where
    nothing : (found : Option (List ℕ)) → is_some found ≡ false → found ≡ None
    nothing None none = refl
    nothing (Some octets) none = absurd cc
