-- The octets of a map, and how a new pair adds to them. Offered to the crates above: `wire-pairs`,
-- `Ascends-lower` and the laws of an insertion.
use Rattle.std.proofs.Common.{◌≡◌, ◌≢◌, ℕ, zero, suc, ◌+◌, ◌<◌, ◌≤◌, List, [], ◌∷◌, ◌++◌, Some, None, length, refl, sym, ap, ◌∙◌, arith, length-append, append_assoc, Less, Equal, Greater, inl, inr}
use Rattle.std.proofs.lemmas.Bool.{cases_lt, cases_eq}
use Rattle.std.proofs.lemmas.Bool.Decides.{nat_tests}
use Rattle.std.specs.Ordering.{nat_cmp}
use Rattle.std.specs.Cmp.{nat_cmp_is}
use Rattle.std.specs.BTreeMap.{insert_entry}
use Rattle.svcb_spec.specs.Params.{Pair, Pairs, value_at, pair_wire, wire_from, wire, Ascends, IsMap, pairs_wire}

-- ---- a key beside the first

is_first : (key : ℕ) (value : List ℕ) (pairs : Pairs)
    → value_at ((key, value) ∷ pairs) key ≡ Some value
is_first key value pairs = rw (← nat_cmp_is key key Equal refl) refl

is_not_first : (key : ℕ) (pair : Pair) (pairs : Pairs) → key ≢ pair.0
    → value_at (pair ∷ pairs) key ≡ value_at pairs key
is_not_first key pair pairs apart = grind (arith, nat_tests)

-- what ascends from a number ascends from a lower one
pub Ascends-lower : (least lower : ℕ) (pairs : Pairs) → lower ≤ least → Ascends least pairs
    → Ascends lower pairs
Ascends-lower least lower [] le up = tt
Ascends-lower least lower (pair ∷ pairs) le up = (omega (arith, up.0), up.1, up.2, up.3)

-- a key below the least has no value
pub value_at-below : (least key : ℕ) (pairs : Pairs) → key < least → Ascends least pairs
    → value_at pairs key ≡ None
value_at-below least key [] below up = refl
value_at-below least key (pair ∷ pairs) below up =
    is_not_first key pair pairs (λ same. omega (arith, up.0))
    ∙ value_at-below (pair.0 + 1) key pairs (omega (arith, up.0)) up.3

-- ---- key by key, and pair by pair

-- a pair below the first key is not written
wire_from-past : (count key : ℕ) (pair : Pair) (pairs : Pairs) → pair.0 < key
    → wire_from count key (pair ∷ pairs) ≡ wire_from count key pairs
unfolding wire_from
wire_from-past zero key pair pairs below = refl
wire_from-past (suc count) key pair pairs below =
    ap (λ value. pair_wire key value ++ wire_from count (key + 1) (pair ∷ pairs))
    (is_not_first key pair pairs (λ same. omega arith))
    ∙ ap (λ rest. pair_wire key (value_at pairs key) ++ rest)
    (wire_from-past count (key + 1) pair pairs (omega arith))

wire_from-pairs : (count key : ℕ) (pairs : Pairs) → key + count ≡ 65536 → Ascends key pairs
    → wire_from count key pairs ≡ pairs_wire pairs
unfolding wire_from
wire_from-pairs zero key [] all up = refl
wire_from-pairs zero key (pair ∷ pairs) all up = absurd (omega (arith, up.0, up.1))
wire_from-pairs (suc count) key [] all up = wire_from-pairs count (key + 1) [] (omega arith) tt
wire_from-pairs (suc count) key (pair ∷ pairs) all up = elim (cases_eq key pair.0) [
  | inl same ↦
      let found : value_at (pair ∷ pairs) key ≡ Some pair.1 =
      ap (value_at (pair ∷ pairs)) same ∙ is_first pair.0 pair.1 pairs in
      let behind : Ascends (key + 1) pairs =
      Ascends-lower (pair.0 + 1) (key + 1) pairs (omega arith) up.3 in
      ap (λ value. pair_wire key value ++ wire_from count (key + 1) (pair ∷ pairs)) found
      ∙ ap (λ rest. pair_wire key (Some pair.1) ++ rest)
      (wire_from-past count (key + 1) pair pairs (omega arith)
      ∙ wire_from-pairs count (key + 1) pairs (omega arith) behind)
      ∙ ap (λ k. pair_wire k (Some pair.1) ++ pairs_wire pairs) same
  | inr apart ↦
      let above : key + 1 ≤ pair.0 = omega (arith, up.0) in
      let absent : value_at (pair ∷ pairs) key ≡ None =
      value_at-below (key + 1) key (pair ∷ pairs) (omega arith) (above, up.1, up.2, up.3) in
      ap (λ value. pair_wire key value ++ wire_from count (key + 1) (pair ∷ pairs)) absent
      ∙ wire_from-pairs count (key + 1) (pair ∷ pairs) (omega arith) (above, up.1, up.2, up.3)
]

-- the octets of a map are those of its pairs in order
pub wire-pairs : (pairs : Pairs) → IsMap pairs → wire pairs ≡ pairs_wire pairs
unfolding wire
wire-pairs pairs is_map = wire_from-pairs 65536 0 pairs refl is_map

-- ---- a new pair

-- a pair in its place among pairs that ascend
pub Ascends-insert : (least key : ℕ) (value : List ℕ) (pairs : Pairs) → Ascends least pairs
    → least ≤ key → key < 65536 → length value < 65536
    → Ascends least (insert_entry nat_cmp pairs key value)
Ascends-insert least key value [] up from small few = (from, small, few, tt)
Ascends-insert least key value (pair ∷ pairs) up from small few = elim (cases_lt key pair.0) [
  | inl below ↦ rw (← nat_cmp_is key pair.0 Less below)
      (from, small, few, (omega arith, up.1, up.2, up.3))
  | inr other ↦ elim (cases_eq key pair.0) [
    | inl same ↦ rw (← nat_cmp_is key pair.0 Equal same) (up.0, up.1, few, up.3)
    | inr apart ↦
        let above : pair.0 < key = omega arith in
        rw (← nat_cmp_is key pair.0 Greater above) (
          up.0,
          up.1,
          up.2,
          Ascends-insert (pair.0 + 1) key value pairs up.3
              (omega arith) small few,
        )
  ]
]

pub IsMap-insert : (pairs : Pairs) (key : ℕ) (value : List ℕ) → IsMap pairs → key < 65536
    → length value < 65536 → IsMap (insert_entry nat_cmp pairs key value)
IsMap-insert pairs key value is_map small few =
    Ascends-insert 0 key value pairs is_map (omega arith) small few

-- a pair's octets
pub length-pair_wire : (key : ℕ) (value : List ℕ)
    → length (pair_wire key (Some value)) ≡ 4 + length value
length-pair_wire key value = grind arith

-- a new key adds its pair's octets
length-pairs_wire-insert : (key : ℕ) (value : List ℕ) (pairs : Pairs) → value_at pairs key ≡ None
    → length (pairs_wire (insert_entry nat_cmp pairs key value))
    ≡ length (pairs_wire pairs) + 4 + length value
length-pairs_wire-insert key value [] absent =
    omega (arith, length-pair_wire key value, length-append (pair_wire key (Some value)) [])
length-pairs_wire-insert key value (pair ∷ pairs) absent = elim (cases_lt key pair.0) [
  | inl below ↦ rw (← nat_cmp_is key pair.0 Less below)
      (omega (
        arith,
        length-pair_wire key value,
        length-append (pair_wire key (Some value))
            (pairs_wire (pair ∷ pairs)),
      ))
  | inr other ↦ elim (cases_eq key pair.0) [
    | inl same ↦ absurd
        (let found : value_at (pair ∷ pairs) key ≡ Some pair.1 = ap (value_at (pair ∷ pairs)) same
        ∙ is_first pair.0 pair.1 pairs in cc)
    | inr apart ↦
        let above : pair.0 < key = omega arith in
        let later = length-pairs_wire-insert key value pairs
        (sym (is_not_first key pair pairs apart) ∙ absent) in
        rw (← nat_cmp_is key pair.0 Greater above)
        (omega (
          arith,
          later,
          length-append (pair_wire pair.0 (Some pair.1))
              (pairs_wire pairs),
          length-append (pair_wire pair.0 (Some pair.1))
              (pairs_wire (insert_entry nat_cmp pairs key value)),
        ))
  ]
]

pub length-wire-insert : (pairs : Pairs) (key : ℕ) (value : List ℕ) → IsMap pairs → key < 65536
    → length value < 65536 → value_at pairs key ≡ None
    → length (wire (insert_entry nat_cmp pairs key value)) ≡ length (wire pairs) + 4 + length value
length-wire-insert pairs key value is_map small few absent =
    rw (
      wire-pairs (insert_entry nat_cmp pairs key value)
          (IsMap-insert pairs key value is_map small few),
      wire-pairs pairs is_map,
    )
    (length-pairs_wire-insert key value pairs absent)

-- ---- pairs in order

-- a key behind others is above them
key_behind : (least : ℕ) (front : Pairs) (pair : Pair) (back : Pairs)
    → Ascends least (front ++ pair ∷ back) → least ≤ pair.0
key_behind least [] pair back up = up.0
key_behind least (first ∷ front) pair back up =
    let above = key_behind (first.0 + 1) front pair back up.3 in omega (arith, up.0)

-- a key behind the last one is new
pub value_at-behind : (least : ℕ) (front : Pairs) (pair : Pair) (back : Pairs)
    → Ascends least (front ++ pair ∷ back) → value_at front pair.0 ≡ None
value_at-behind least [] pair back up = refl
value_at-behind least (first ∷ front) pair back up =
    let above = key_behind (first.0 + 1) front pair back up.3 in
    is_not_first pair.0 first front (λ same. omega arith)
    ∙ value_at-behind (first.0 + 1) front pair back up.3

-- the pair of a key behind the last one is appended
pub insert_entry-behind : (least : ℕ) (front : Pairs) (pair : Pair) (back : Pairs)
    → Ascends least (front ++ pair ∷ back)
    → insert_entry nat_cmp front pair.0 pair.1 ≡ front ++ pair ∷ []
insert_entry-behind least [] pair back up = refl
insert_entry-behind least (first ∷ front) pair back up =
    let above : first.0 < pair.0 =
    (let le = key_behind (first.0 + 1) front pair back up.3 in omega arith) in
    rw (← nat_cmp_is pair.0 first.0 Greater above)
    (ap (λ rest. first ∷ rest) (insert_entry-behind (first.0 + 1) front pair back up.3))

-- a prefix of a map's pairs is a map
pub Ascends-front : (least : ℕ) (front back : Pairs) → Ascends least (front ++ back)
    → Ascends least front
Ascends-front least [] back up = tt
Ascends-front least (first ∷ front) back up =
    (up.0, up.1, up.2, Ascends-front (first.0 + 1) front back up.3)

-- the octets of a front, and those behind it
pub pairs_wire-append : (front back : Pairs)
    → pairs_wire (front ++ back) ≡ pairs_wire front ++ pairs_wire back
pairs_wire-append [] back = refl
pairs_wire-append (first ∷ front) back =
    ap (λ rest. pair_wire first.0 (Some first.1) ++ rest) (pairs_wire-append front back)
    ∙ sym (append_assoc (pair_wire first.0 (Some first.1)) (pairs_wire front) (pairs_wire back))
