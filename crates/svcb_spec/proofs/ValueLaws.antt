-- Values read back from their octets, and values in octets. Offered to the crates above:
-- `values_read_back` and `some_numbers`.
use Rattle.std.proofs.Common.{◌≡◌, ℕ, ◌%◌, ◌<◌, ◌≤◌, Bool, true, false, cond, List, [], ◌∷◌, length, take, Option, None, Some, Result, Ok, Err, refl, sym, ap, ◌∙◌, arith, subst}
use Rattle.std.proofs.Math.Seq.{take-length}
use Rattle.std.specs.Prelude.{nat_lt, ◌==◌}
use Rattle.std.specs.List.{concat}
use Rattle.std.proofs.lemmas.Bool.Decides.{nat_tests}
use Rattle.name_spec.specs.Octets.{Fault, Short, Form, be2}
use Rattle.svcb_spec.specs.Values.{Value, Mandatory, Alpn, NoDefaultAlpn, Port, Ipv4Hint, Ech, Ipv6Hint, DohPath, Ohttp, TlsSupportedGroups, Unknown, key_of, encode, numbers16_wire, protocols_wire, HasItems, IsValue, is_own_type, is_unknown}
use Rattle.name_spec.specs.Taking.{Taken}
use Rattle.svcb_spec.specs.ReadingValues.{octets_number, numbers, parts, protocols, are_whole, long_fault, parts_fault, groups_fault, protocols_fault, take_all, take_port, take_value, whole_taken, or_unknown, value_in}
use Rattle.svcb_spec.proofs.ItemLaws.{AreOctets, octets_number-be2, be2-octets_number, octets_number-small, numbers-numbers_wire, numbers_wire-whole, numbers_wire-numbers, numbers-small, numbers-first, concat-parts, parts-each, parts-concat, concat-whole, protocols-protocols_wire, protocols_wire-whole, protocols_wire-protocols, protocols-short}

-- ---- first faults

pub no_long_fault : (octets : List ℕ) → length octets < 65536 → long_fault octets ≡ None
no_long_fault octets few = let is : nat_lt 65535 (length octets) ≡ false = grind (arith, nat_tests)
    in rw is refl

pub no_parts_fault : (len : ℕ) (octets : List ℕ) → length octets < 65536 → length octets % len ≡ 0
    → parts_fault len octets ≡ None
no_parts_fault len octets few whole =
    let is : nat_lt 65535 (length octets) ≡ false = grind (arith, nat_tests) in
    let even : (length octets % len == 0) ≡ true = grind (arith, nat_tests) in
    rw (is, even) refl

pub no_groups_fault : (octets : List ℕ) → 0 < length octets → length octets < 65536
    → length octets % 2 ≡ 0 → groups_fault octets ≡ None
no_groups_fault octets some few whole =
    let is : (length octets == 0) ≡ false = grind (arith, nat_tests) in
    rw is (no_parts_fault 2 octets few whole)

pub no_protocols_fault : (octets : List ℕ) → length octets < 65536 → are_whole octets ≡ true
    → protocols_fault octets ≡ None
no_protocols_fault octets few whole =
    let is : nat_lt 65535 (length octets) ≡ false = grind (arith, nat_tests) in
    rw (is, whole) refl

-- ---- values read back

all_taken : (octets : List ℕ) (fault : Option Fault) (value read : Value) → fault ≡ None
    → read ≡ value → whole_taken octets (take_all fault read octets) ≡ Ok value
all_taken octets fault value read none is =
    let same : nat_lt (length octets) (length octets) ≡ false = grind (arith, nat_tests) in
    ap (λ f. whole_taken octets (take_all f read octets)) none
    ∙ ap (λ t. cond t (Err Form) (Ok read)) same ∙ ap Ok is

some_groups : (groups : List ℕ) → 0 < length groups → 0 < length (numbers16_wire groups)
some_groups [] some = absurd (omega arith)
some_groups (group ∷ groups) some = omega arith

-- a value of its key's type is read back from its octets
pub values_read_back : (value : Value) → IsValue value → is_own_type value ≡ true
    → whole_taken (encode value) (take_value (key_of value) (encode value)) ≡ Ok value
values_read_back (Mandatory keys) is own =
    all_taken _ _ _ _ (no_parts_fault 2 (numbers16_wire keys) is.1 (numbers_wire-whole keys))
    (ap Mandatory (numbers-numbers_wire keys))
values_read_back (Alpn items) is own =
    all_taken _ _ _ _ (no_protocols_fault (protocols_wire items) is.1 (protocols_wire-whole items))
    (ap Alpn (protocols-protocols_wire items))
values_read_back NoDefaultAlpn is own = refl
values_read_back (Port port) is own = ap (λ n. Ok (Port n)) (octets_number-be2 port)
values_read_back (Ipv4Hint addresses) is own =
    all_taken _ _ _ _
    (no_parts_fault 4 (concat addresses) is.1 (concat-whole 4 addresses (omega arith) is.0))
    (ap Ipv4Hint (parts-concat 4 addresses (omega arith) is.0))
values_read_back (Ech octets) is own = all_taken _ _ _ _ (no_long_fault octets is.1) refl
values_read_back (Ipv6Hint addresses) is own =
    all_taken _ _ _ _
    (no_parts_fault 16 (concat addresses) is.1 (concat-whole 16 addresses (omega arith) is.0))
    (ap Ipv6Hint (parts-concat 16 addresses (omega arith) is.0))
values_read_back (DohPath octets) is own = all_taken _ _ _ _ (no_long_fault octets is.1) refl
values_read_back Ohttp is own = refl
values_read_back (TlsSupportedGroups groups) is own =
    all_taken _ _ _ _
    (no_groups_fault (numbers16_wire groups) (some_groups groups is.0.0) is.1
    (numbers_wire-whole groups)) (ap TlsSupportedGroups (numbers-numbers_wire groups))
values_read_back (Unknown key octets) is own =
    let e0 : (key == 0) ≡ false = grind (arith, nat_tests) in
    let e1 : (key == 1) ≡ false = grind (arith, nat_tests) in
    let e2 : (key == 2) ≡ false = grind (arith, nat_tests) in
    let e3 : (key == 3) ≡ false = grind (arith, nat_tests) in
    let e4 : (key == 4) ≡ false = grind (arith, nat_tests) in
    let e5 : (key == 5) ≡ false = grind (arith, nat_tests) in
    let e6 : (key == 6) ≡ false = grind (arith, nat_tests) in
    let e7 : (key == 7) ≡ false = grind (arith, nat_tests) in
    let e8 : (key == 8) ≡ false = grind (arith, nat_tests) in
    let e9 : (key == 9) ≡ false = grind (arith, nat_tests) in
    rw (e0, e1, e2, e3, e4, e5, e6, e7, e8, e9)
    (all_taken octets (long_fault octets) (Unknown key octets) (Unknown key octets)
    (no_long_fault octets is.1) refl)

typed_is_own : (value : Value) → is_unknown value ≡ false → is_own_type value ≡ true
typed_is_own (Mandatory keys) typed = refl
typed_is_own (Alpn items) typed = refl
typed_is_own NoDefaultAlpn typed = refl
typed_is_own (Port port) typed = refl
typed_is_own (Ipv4Hint addresses) typed = refl
typed_is_own (Ech octets) typed = refl
typed_is_own (Ipv6Hint addresses) typed = refl
typed_is_own (DohPath octets) typed = refl
typed_is_own Ohttp typed = refl
typed_is_own (TlsSupportedGroups groups) typed = refl
typed_is_own (Unknown key octets) typed = cc

unknown_is : (value : Value) → is_unknown value ≡ true
    → value ≡ Unknown (key_of value) (encode value)
unknown_is (Unknown key octets) unknown = refl
unknown_is (Mandatory keys) unknown = cc
unknown_is (Alpn items) unknown = cc
unknown_is NoDefaultAlpn unknown = cc
unknown_is (Port port) unknown = cc
unknown_is (Ipv4Hint addresses) unknown = cc
unknown_is (Ech octets) unknown = cc
unknown_is (Ipv6Hint addresses) unknown = cc
unknown_is (DohPath octets) unknown = cc
unknown_is Ohttp unknown = cc
unknown_is (TlsSupportedGroups groups) unknown = cc

same_ok : (x y : Value) (r : Result Value Fault) → r ≡ Ok x → r ≡ Ok y → x ≡ y
same_ok x y r is_x is_y = cc

once : (a b : Value) (t : Bool) → is_unknown a ≡ t → is_unknown b ≡ t → IsValue a → IsValue b
    → key_of a ≡ key_of b → encode a ≡ encode b → a ≡ b
once a b true no_a no_b is_a is_b keys octets =
    unknown_is a no_a ∙ ap (λ k. Unknown k (encode a)) keys ∙ ap (Unknown (key_of b)) octets
    ∙ sym (unknown_is b no_b)
once a b false typed_a typed_b is_a is_b keys octets =
    same_ok a b (whole_taken (encode a) (take_value (key_of a) (encode a)))
    (values_read_back a is_a (typed_is_own a typed_a))
    (ap (λ k. whole_taken (encode a) (take_value k (encode a))) keys
    ∙ ap (λ os. whole_taken os (take_value (key_of b) os)) octets
    ∙ values_read_back b is_b (typed_is_own b typed_b))

-- no octets are those of two values of one type and key
pub values_encode_once : (a b : Value) → IsValue a → IsValue b → key_of a ≡ key_of b
    → is_unknown a ≡ is_unknown b → encode a ≡ encode b → a ≡ b
values_encode_once a b is_a is_b keys alike octets =
    once a b (is_unknown b) alike refl is_a is_b keys octets

-- ---- values in octets

pub some_numbers : (octets : List ℕ) → 0 < length octets → 0 < length (numbers octets)
some_numbers octets some =
    subst (λ ns. 0 < length ns) (sym (numbers-first octets some)) (omega arith)

-- the value has the key and the octets
abbrev pub IsIn : ℕ → List ℕ → Value → Type 0
IsIn key octets value = IsValue value × (key_of value ≡ key) × (encode value ≡ octets)

no_fault_few : (octets : List ℕ) → long_fault octets ≡ None → length octets < 65536
no_fault_few octets none = grind (arith, nat_tests)

no_fault_parts : (len : ℕ) (octets : List ℕ) → parts_fault len octets ≡ None
    → (length octets < 65536) × (length octets % len ≡ 0)
no_fault_parts len octets none = (grind (arith, nat_tests), grind (arith, nat_tests))

no_fault_groups : (octets : List ℕ) → groups_fault octets ≡ None → (0 < length octets)
    × (length octets < 65536) × (length octets % 2 ≡ 0)
no_fault_groups octets none =
    (grind (arith, nat_tests), grind (arith, nat_tests), grind (arith, nat_tests))

no_fault_protocols : (octets : List ℕ) → protocols_fault octets ≡ None → (length octets < 65536)
    × (are_whole octets ≡ true)
no_fault_protocols octets none = (grind (arith, nat_tests), grind (arith, nat_tests))

is_in : (key : ℕ) (octets : List ℕ) (value : Value) → HasItems value → length octets < 65536
    → key_of value ≡ key → encode value ≡ octets → IsIn key octets value
is_in key octets value has few keyed coded =
    ((has, subst (λ os. length os < 65536) (sym coded) few), keyed, coded)

-- by cases on a test
pick : {A : Type 0} (P : A → Type 0) (b : Bool) (x y : A) → (b ≡ true → P x) → (b ≡ false → P y)
    → P (cond b x y)
pick P true x y when otherwise = when refl
pick P false x y when otherwise = otherwise refl

is_equal : (a b : ℕ) → (a == b) ≡ true → b ≡ a
is_equal a b is = grind (arith, nat_tests)

module _ (key : ℕ) (octets : List ℕ) (small : key < 65536) (few : length octets < 65536)
    (are : AreOctets octets) where
  abbrev IsInRead : Result (Taken Value) Fault → Type 0
  IsInRead read = IsIn key octets (or_unknown key octets (whole_taken octets read))

  any : IsIn key octets (Unknown key octets)
  any = is_in key octets (Unknown key octets) small few refl refl

  -- a value that takes all octets
  whole : (fault : Option Fault) (value : Value) → (fault ≡ None → IsIn key octets value)
      → IsInRead (take_all fault value octets)
  whole None value is =
      let same : nat_lt (length octets) (length octets) ≡ false = grind (arith, nat_tests) in
      subst (λ t. IsIn key octets (or_unknown key octets (cond t (Err Form) (Ok value))))
      (sym same) (is refl)
  whole (Some fault) value is = any

  -- a value that takes so many octets
  part : (n : ℕ) (value : Value) → (length octets ≤ n → IsIn key octets value)
      → IsInRead (Ok (record { value = value; len = n }))
  part n value is =
      pick (λ read. IsIn key octets (or_unknown key octets read)) (nat_lt n (length octets))
      (Err Form) (Ok value) (λ more. any) (λ all. is (grind (arith, nat_tests)))

  nothing : length octets ≤ 0 → [] ≡ octets
  nothing none = none_left octets none
    where
      none_left : (os : List ℕ) → length os ≤ 0 → [] ≡ os
      none_left [] none = refl
      none_left (o ∷ os) none = absurd (omega arith)

  port : 3 ≡ key → IsInRead (take_port octets)
  port is = pick IsInRead (nat_lt (length octets) 2) (Err Short)
      (Ok (record { value = Port (octets_number (take 2 octets)); len = 2 })) (λ short. any)
      (λ long. part 2 (Port (octets_number (take 2 octets))) (λ all.
      let two : length octets ≡ 2 = grind (arith, nat_tests) in
      let same : take 2 octets ≡ octets = ap (λ n. take n octets) (sym two) ∙ take-length octets in
      let below : octets_number (take 2 octets) < 65536 =
      subst (λ os. octets_number os < 65536) (sym same) (octets_number-small octets are two) in
      is_in key octets (Port (octets_number (take 2 octets))) below few is
      (ap (λ os. be2 (octets_number os)) same ∙ be2-octets_number octets are two)))

  -- the value that octets are under a key has the key and the octets
  pub values_in_octets : IsIn key octets (value_in key octets)
  values_in_octets =
      pick IsInRead (key == 0) _ _
      (λ is. whole (parts_fault 2 octets) (Mandatory (numbers octets)) (λ none.
      let known = no_fault_parts 2 octets none in
      is_in key octets (Mandatory (numbers octets)) (numbers-small octets are known.1) few
      (is_equal key 0 is) (numbers_wire-numbers octets are known.1))) (λ _.
      pick IsInRead (key == 1) _ _
      (λ is. whole (protocols_fault octets) (Alpn (protocols octets)) (λ none.
      let known = no_fault_protocols octets none in
      is_in key octets (Alpn (protocols octets)) (protocols-short octets are known.1) few
      (is_equal key 1 is) (protocols_wire-protocols octets are known.1))) (λ _.
      pick IsInRead (key == 2) _ _
      (λ is. part 0 NoDefaultAlpn
      (λ all. is_in key octets NoDefaultAlpn tt few (is_equal key 2 is) (nothing all))) (λ _.
      pick IsInRead (key == 3) _ _ (λ is. port (is_equal key 3 is)) (λ _.
      pick IsInRead (key == 4) _ _
      (λ is. whole (parts_fault 4 octets) (Ipv4Hint (parts 4 octets)) (λ none.
      let known = no_fault_parts 4 octets none in
      is_in key octets (Ipv4Hint (parts 4 octets)) (parts-each 4 octets (omega arith) known.1) few
      (is_equal key 4 is) (concat-parts 4 octets (omega arith)))) (λ _.
      pick IsInRead (key == 5) _ _
      (λ is. whole (long_fault octets) (Ech octets)
      (λ none. is_in key octets (Ech octets) tt few (is_equal key 5 is) refl)) (λ _.
      pick IsInRead (key == 6) _ _
      (λ is. whole (parts_fault 16 octets) (Ipv6Hint (parts 16 octets)) (λ none.
      let known = no_fault_parts 16 octets none in
      is_in key octets (Ipv6Hint (parts 16 octets)) (parts-each 16 octets (omega arith) known.1)
      few (is_equal key 6 is) (concat-parts 16 octets (omega arith)))) (λ _.
      pick IsInRead (key == 7) _ _
      (λ is. whole (long_fault octets) (DohPath octets)
      (λ none. is_in key octets (DohPath octets) tt few (is_equal key 7 is) refl)) (λ _.
      pick IsInRead (key == 8) _ _
      (λ is. part 0 Ohttp
      (λ all. is_in key octets Ohttp tt few (is_equal key 8 is) (nothing all))) (λ _.
      pick IsInRead (key == 9) _ _
      (λ is. whole (groups_fault octets) (TlsSupportedGroups (numbers octets)) (λ none.
      let known = no_fault_groups octets none in
      is_in key octets (TlsSupportedGroups (numbers octets))
      (some_numbers octets known.0, numbers-small octets are known.2) few (is_equal key 9 is)
      (numbers_wire-numbers octets are known.2))) (λ _.
      whole (long_fault octets) (Unknown key octets) (λ none. any)))))))))))

-- ---- keys

-- a key has 16 bits
pub key_of_small : (value : Value) → HasItems value → key_of value < 65536
key_of_small (Mandatory keys) has = omega arith
key_of_small (Alpn items) has = omega arith
key_of_small NoDefaultAlpn has = omega arith
key_of_small (Port number) has = omega arith
key_of_small (Ipv4Hint addresses) has = omega arith
key_of_small (Ech octets) has = omega arith
key_of_small (Ipv6Hint addresses) has = omega arith
key_of_small (DohPath octets) has = omega arith
key_of_small Ohttp has = omega arith
key_of_small (TlsSupportedGroups groups) has = omega arith
key_of_small (Unknown key octets) has = has
