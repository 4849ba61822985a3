-- Tokens that spell a map spell it in any order. Offered to the crates above: `any_order`.
use Rattle.std.proofs.Common.{◌≡◌, ℕ, ◌+◌, ◌<◌, ◌≤◌, Bool, true, false, cond, ◌||◌, IsPermutation, List, [], ◌∷◌, ◌++◌, map, length, Result, Ok, Err, is_ok, refl, sym, ap, ap₂, ◌∙◌, subst, arith, append_assoc, append-nil}
use Rattle.std.specs.Prelude.{◌==◌, nat_le}
use Rattle.std.specs.List.{list_all}
use Rattle.std.proofs.Math.Seq.{drop-append_seam}
use Rattle.std.proofs.lemmas.Bool.{and_parts, and_from}
use Rattle.std.proofs.lemmas.Bool.Decides.{nat_tests}
use Rattle.std.proofs.lemmas.List.Sorted.{IsPermutation-map, length_permutation, list_any-IsPermutation}
use Rattle.svcb_spec.specs.Params.{Pair, Pairs}
use Rattle.svcb_spec.specs.Values.{Value, Unknown, key_of, encode}
use Rattle.text_spec.specs.declared.errors.ScanError.{ScanError}
use Rattle.text_spec.specs.declared.errors.ScanError.TheVariants.{DuplicateKey, MandatoryMissing}
use Rattle.text_spec.specs.declared.lexeme.Symbol.{Symbol}
use Rattle.text_spec.specs.Scanning.{Scanned, octets_of, scan_then, done, refused}
use Rattle.svcb_spec.specs.ParamTexts.{spells, has_key, mandatory_keys, are_mandatory_there, insert_pair, map_of, values_at}
use Rattle.svcb_laws.specs.ParamTextLaws.{AnyTokenOrder}
use Rattle.svcb_laws.proofs.ParamTokens.{AreSpelled, AreNew, after_token, made_of, params-spelled}
use Rattle.svcb_laws.proofs.Tallies.{tally, tally-IsPermutation, tally-append, list_all-IsPermutation, list_all-same, AscendsKeys, one_if, of_key, same_number, is_equal, same_maps}

-- ---- the values that tokens spell

-- the value, where there is no fault
abbrev value_or : Result Value ScanError → Value
value_or (Ok value) = value
value_or (Err fault) = Unknown 0 []

abbrev spelled_value : List Symbol → Value
spelled_value token = value_or (spells (octets_of token))

abbrev is_spelled : List Symbol → Bool
is_spelled token = is_ok (spells (octets_of token))

ok_value : (spelled : Result Value ScanError) → is_ok spelled ≡ true
    → spelled ≡ Ok (value_or spelled)
ok_value (Ok value) is = refl
ok_value (Err fault) is = absurd cc

are_spelled : (tokens : List (List Symbol)) → list_all is_spelled tokens ≡ true
    → AreSpelled tokens (map spelled_value tokens)
are_spelled [] all = tt
are_spelled (token ∷ tokens) all =
    let both = and_parts (is_spelled token) (list_all is_spelled tokens) all in
    (ok_value (spells (octets_of token)) both.0, are_spelled tokens both.1)

-- all tokens spell values of new keys
pub record AreValuesOf (before : List Value) (tokens : List (List Symbol)) (place : ℕ)
    (values : List Value) (end : ℕ) : Type 0 where
  pub spelled : list_all is_spelled tokens ≡ true
  pub new : AreNew before (map spelled_value tokens)
  pub are : values ≡ before ++ map spelled_value tokens
  pub all_taken : end ≡ place + length tokens

not_done : {A : Type 0} (fault : ScanError) (place : ℕ) (x : A) (end : ℕ)
    → refused fault place ≡ done x end → ⊥
not_done fault place x end is = apart fault x (ap (λ scanned. scanned.outcome) is)
  where
    apart : {A : Type 0} (fault : ScanError) (x : A) → Err fault ≡ Ok x → ⊥
    apart fault x is = cc

same_done : {A : Type 0} (x y : A) (place end : ℕ) → done x place ≡ done y end
    → (x ≡ y) × (place ≡ end)
same_done x y place end is =
    (same x y (ap (λ scanned. scanned.outcome) is), ap (λ scanned. scanned.place) is)
  where
    same : {A : Type 0} (x y : A) → ◌≡◌ {A = Result A ScanError} (Ok x) (Ok y) → x ≡ y
    same x y is = cc

module _ (values : List Value) (end : ℕ) where
  after_value : (before : List Value) (token : List Symbol) (tokens : List (List Symbol))
      (place : ℕ) → spells (octets_of token) ≡ Ok (spelled_value token)
      → has_key before (key_of (spelled_value token)) ≡ false
      → AreValuesOf (before ++ spelled_value token ∷ []) tokens (place + 1) values end
      → AreValuesOf before (token ∷ tokens) place values end
  after_value before token tokens place is new rest = record {
    spelled = and_from (is_spelled token) (list_all is_spelled tokens)
        (ap (λ (r : Result Value ScanError). is_ok r) is) rest.spelled;
    new = (new, rest.new);
    are = rest.are ∙ append_assoc before (spelled_value token ∷ []) (map spelled_value tokens);
    all_taken = omega (arith, rest.all_taken);
  }

  -- what is read of tokens without a fault
  pub values_at-done : (before : List Value) (tokens : List (List Symbol)) (place : ℕ)
      → values_at before tokens place ≡ done values end
      → AreValuesOf before tokens place values end
  values_at-done before [] place read =
      let same = same_done before values place end read in
      record {
        spelled = refl;
        new = tt;
        are = sym same.0 ∙ sym (append-nil before);
        all_taken = omega (arith, same.1);
      }
  values_at-done before (token ∷ tokens) place read =
      elim (spells (octets_of token)) as (λ r. spells (octets_of token) ≡ r
      → after_token before tokens place r ≡ done values end
      → AreValuesOf before (token ∷ tokens) place values end) [
        | Err fault ↦ λ is read. absurd (not_done fault place values end read)
        | Ok value ↦ λ is read.
            let here : value ≡ spelled_value token = sym (ap value_or is) in
            elim (has_key before (key_of value)) as (λ b. has_key before (key_of value) ≡ b
            → cond b (refused DuplicateKey place)
            (values_at (before ++ value ∷ []) tokens (place + 1)) ≡ done values end
            → AreValuesOf before (token ∷ tokens) place values end) [
              | true ↦ λ old read. absurd (not_done DuplicateKey place values end read)
              | false ↦ λ new read. after_value before token tokens place (is ∙ ap Ok here)
                  (subst (λ v. has_key before (key_of v) ≡ false) here new)
                  (subst (λ v. AreValuesOf (before ++ v ∷ []) tokens (place + 1) values end) here
                  (values_at-done (before ++ value ∷ []) tokens (place + 1) read))
            ] refl read
      ] refl read

-- ---- keys, each at most once

-- one for each value of a key
abbrev of_value : ℕ → Value → ℕ
of_value key value = one_if (key_of value == key)

abbrev KeysOnce : List Value → Type 0
KeysOnce values = (key : ℕ) → tally (of_value key) values ≤ 1

no_key : (key : ℕ) (before : List Value) → has_key before key ≡ false
    → tally (of_value key) before ≡ 0
no_key key [] none = refl
no_key key (value ∷ before) none =
    elim (key_of value == key) as (λ b. (b || has_key before key) ≡ false
    → one_if b + tally (of_value key) before ≡ 0) [
      | true ↦ λ h. absurd cc
      | false ↦ λ h. omega (arith, no_key key before h)
    ] none

some_key : (key : ℕ) (before : List Value) → has_key before key ≡ true
    → 0 < tally (of_value key) before
some_key key [] some = absurd cc
some_key key (value ∷ before) some =
    elim (key_of value == key) as (λ b. (b || has_key before key) ≡ true
    → 0 < one_if b + tally (of_value key) before) [
      | true ↦ λ h. omega arith
      | false ↦ λ h. omega (arith, some_key key before h)
    ] some

-- a value of a new key behind values whose keys stand once
once_more : (before : List Value) (value : Value) → KeysOnce before
    → has_key before (key_of value) ≡ false → KeysOnce (before ++ value ∷ [])
once_more before value once new key =
    let whole = tally-append (of_value key) before (value ∷ []) in
    elim (key_of value == key) as
    (λ b. (key_of value == key) ≡ b
    → tally (of_value key) (before ++ value ∷ []) ≡ tally (of_value key) before + (one_if b + 0)
    → tally (of_value key) (before ++ value ∷ []) ≤ 1) [
      | true ↦ λ is count.
          let none = no_key key before
          (subst (λ n. has_key before n ≡ false) (is_equal (key_of value) key is) new) in
          omega (arith, count, none)
      | false ↦ λ is count. omega (arith, count, once key)
    ] refl whole

new_once : (before values : List Value) → KeysOnce before → AreNew before values
    → KeysOnce (before ++ values)
new_once before [] once new = subst KeysOnce (sym (append-nil before)) once
new_once before (value ∷ values) once new =
    subst KeysOnce (append_assoc before (value ∷ []) values)
    (new_once (before ++ value ∷ []) values (once_more before value once new.0) new.1)

once_new : (before values : List Value) → KeysOnce (before ++ values) → AreNew before values
once_new before [] once = tt
once_new before (value ∷ values) once =
    let key = key_of value in
    let count = tally-append (of_value key) before (value ∷ values) in
    let here : of_value key value ≡ 1 = ap one_if (same_number key) in
    let new = elim (has_key before key) as (λ b. has_key before key ≡ b → b ≡ false) [
      | true ↦ λ old. absurd (omega (arith, some_key key before old, count, here, once key))
      | false ↦ λ other. refl
    ] refl in (
      new,
      once_new (before ++ value ∷ []) values
          (subst KeysOnce (sym (append_assoc before (value ∷ []) values)) once),
    )

-- ---- the map of values

abbrev pair_of : Value → Pair
pair_of value = (key_of value, encode value)

tally-insert : (f : Pair → ℕ) (pair : Pair) (pairs : Pairs)
    → tally f (insert_pair pair pairs) ≡ f pair + tally f pairs
tally-insert f pair [] = refl
tally-insert f pair (other ∷ pairs) =
    elim (nat_le pair.0 other.0) as
    (λ b. tally f (cond b (pair ∷ other ∷ pairs) (other ∷ insert_pair pair pairs))
    ≡ f pair + (f other + tally f pairs)) [
      | true ↦ refl
      | false ↦ omega (arith, tally-insert f pair pairs)
    ]

tally-map_of : (f : Pair → ℕ) (values : List Value)
    → tally f (map_of values) ≡ tally (λ value. f (pair_of value)) values
tally-map_of f [] = refl
tally-map_of f (value ∷ values) =
    tally-insert f (pair_of value) (map_of values)
    ∙ ap (λ n. f (pair_of value) + n) (tally-map_of f values)

at_most : (n m : ℕ) → nat_le n m ≡ true → n ≤ m
at_most n m is = grind (arith, nat_tests)

not_at_most : (n m : ℕ) → nat_le n m ≡ false → m < n
not_at_most n m is = grind (arith, nat_tests)

not_same : (n m : ℕ) → one_if (m == n) ≡ 0 → n ≤ m → n + 1 ≤ m
not_same n m other most =
    elim (m == n) as (λ b. (m == n) ≡ b → one_if b ≡ 0 → n + 1 ≤ m) [
      | true ↦ λ is other. absurd (omega (arith, other))
      | false ↦ λ is other. above n m is most
    ] refl other
  where
    above : (n m : ℕ) → (m == n) ≡ false → n ≤ m → n + 1 ≤ m
    above n m other most = grind (arith, nat_tests)

insert-ascends : (least : ℕ) (pair : Pair) (pairs : Pairs) → AscendsKeys least pairs
    → least ≤ pair.0 → tally (of_key pair.0) pairs ≡ 0
    → AscendsKeys least (insert_pair pair pairs)
insert-ascends least pair [] ascends most none = (most, tt)
insert-ascends least pair (other ∷ pairs) ascends most none =
    let here : one_if (other.0 == pair.0) ≡ 0 = omega (arith, none) in
    let rest : tally (of_key pair.0) pairs ≡ 0 = omega (arith, none) in
    elim (nat_le pair.0 other.0) as
    (λ b. nat_le pair.0 other.0 ≡ b
    → AscendsKeys least (cond b (pair ∷ other ∷ pairs) (other ∷ insert_pair pair pairs))) [
      | true ↦ λ is. (most, (not_same pair.0 other.0 here (at_most pair.0 other.0 is), ascends.1))
      | false ↦ λ is.
          let above = not_at_most pair.0 other.0 is in
          (ascends.0, insert-ascends (other.0 + 1) pair pairs ascends.1 (omega arith) rest)
    ] refl

map_of-ascends : (values : List Value) → KeysOnce values → AscendsKeys 0 (map_of values)
map_of-ascends [] once = tt
map_of-ascends (value ∷ values) once =
    let here : of_value (key_of value) value ≡ 1 = ap one_if (same_number (key_of value)) in
    let none : tally (of_key (key_of value)) (map_of values) ≡ 0 =
    omega (arith, tally-map_of (of_key (key_of value)) values, here, once (key_of value)) in
    insert-ascends 0 (pair_of value) (map_of values)
    (map_of-ascends values (λ key. omega (arith, once key))) (omega arith) none

-- values in another order
module _ (values others : List Value) (same : IsPermutation values others) where
  once_others : KeysOnce values → KeysOnce others
  once_others once key =
      omega (arith, once key, tally-IsPermutation (of_value key) values others same)

  map_of-others : KeysOnce values → map_of values ≡ map_of others
  map_of-others once =
      same_maps 0 (map_of values) (map_of others) (map_of-ascends values once)
      (map_of-ascends others (once_others once))
      (λ f. tally-map_of f values
      ∙ tally-IsPermutation (λ value. f (pair_of value)) values others same
      ∙ sym (tally-map_of f others))

  has_key-others : (key : ℕ) → has_key values key ≡ has_key others key
  has_key-others key = list_any-IsPermutation (λ value. key_of value == key) values others same

  there-others : are_mandatory_there values ≡ are_mandatory_there others
  there-others =
      list_all-IsPermutation (λ value. list_all (has_key values) (mandatory_keys value)) values
      others same
      ∙ list_all-same (λ value. list_all (has_key values) (mandatory_keys value))
      (λ value. list_all (has_key others) (mandatory_keys value)) others
      (λ value. list_all-same (has_key values) (has_key others)
      (mandatory_keys value) has_key-others)

-- ---- parameters

-- what parameters without a fault are made of
record AreMadeOf (scanned : Scanned (List Value)) (pairs : Pairs) (end : ℕ) : Type 0 where
  values : List Value
  read : scanned ≡ done values end
  there : are_mandatory_there values ≡ true
  map : map_of values ≡ pairs

made_of-done : (values : List Value) (place : ℕ) (pairs : Pairs) (end : ℕ)
    → made_of values place ≡ done pairs end
    → (are_mandatory_there values ≡ true) × (map_of values ≡ pairs) × (place ≡ end)
made_of-done values place pairs end read =
    elim (are_mandatory_there values) as
    (λ b. cond b (done (map_of values) place) (refused MandatoryMissing place) ≡ done pairs end
    → (b ≡ true) × (map_of values ≡ pairs) × (place ≡ end)) [
      | true ↦ λ read. let is = same_done (map_of values) pairs place end read in (refl, is.0, is.1)
      | false ↦ λ read. absurd (not_done MandatoryMissing place pairs end read)
    ] read

made_by : (outcome : Result (List Value) ScanError) (place : ℕ) (pairs : Pairs) (end : ℕ)
    → scan_then (record { outcome = outcome; place = place }) made_of ≡ done pairs end
    → AreMadeOf (record { outcome = outcome; place = place }) pairs end
made_by (Err fault) place pairs end read = absurd (not_done fault place pairs end read)
made_by (Ok values) place pairs end read =
    let is = made_of-done values place pairs end read in
    record { values = values; read = ap (done values) is.2; there = is.0; map = is.1 }

-- tokens that spell a map spell it in any order
pub any_order : AnyTokenOrder
any_order front tokens others pairs end same read =
    let place = length front in
    let scanned = values_at [] tokens place in
    let made : AreMadeOf scanned pairs end = made_by scanned.outcome scanned.place pairs end
    (sym (ap (λ (left : List (List Symbol)). scan_then (values_at [] left place) made_of)
    (drop-append_seam front tokens)) ∙ read) in
    let known = values_at-done made.values end [] tokens place made.read in
    let found = map spelled_value tokens in
    let found' = map spelled_value others in
    let same_values = IsPermutation-map spelled_value tokens others same in
    let once = new_once [] found (λ key. omega arith) known.new in
    let spelled = sym (list_all-IsPermutation is_spelled tokens others same) ∙ known.spelled in
    let there = sym (there-others found found' same_values)
    ∙ subst (λ values. are_mandatory_there values ≡ true) known.are made.there in
    let count : place + length others ≡ end =
    omega (arith, known.all_taken, length_permutation tokens others same) in
    let maps : map_of found' ≡ pairs =
    sym (map_of-others found found' same_values once) ∙ sym (ap map_of known.are) ∙ made.map
    in (
      known.all_taken,
      params-spelled front others found' (are_spelled others spelled)
          (once_new [] found' (once_others found found' same_values once)) there
          ∙ ap₂ done maps count,
    )
