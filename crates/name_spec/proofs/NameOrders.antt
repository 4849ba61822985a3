-- Comparing names by their octets, and label by label from the last. Offered to the crates above:
-- `same_by_octets`, and `cmp_from_last` with `pair_rules` and `order_rules`, for functions that
-- compare names.
use Rattle.std.proofs.Common.{◌≡◌, ℕ, ◌+◌, ◌-◌, ◌<◌, Bool, List, [], ◌∷◌, ◌++◌, length, map, reverse, take, drop, refl, sym, ap, ◌∙◌, arith, take-append-drop, Ordering, Less, Equal, Greater}
use Rattle.std.specs.Prelude.{IsTrue, ◌↔◌}
use Rattle.std.specs.Bool.{one_answer}
use Rattle.std.specs.Char.{to_ascii_lowercase}
use Rattle.std.specs.Ordering.{nat_cmp, ordering_then}
use Rattle.std.specs.Cmp.Lexicographic.{slice_cmp}
use Rattle.std.proofs.lemmas.List.{map-append, reverse-append, length-map, length-reverse, length-take, length-drop, take_at, drop_at}
use Rattle.std.proofs.lemmas.Bool.Decides.{nat_tests}
use Rattle.name_spec.specs.Names.{name_wire, AreLabels}
use Rattle.name_spec.specs.OwnedNames.{in_lower_case, is_same_name, from_last, name_cmp, lowered_wire}
use Rattle.name_spec.specs.NameOrderLaws.{same_lowered, lowered_wire-same}

-- ---- equality by octets

-- the length of a label is no letter
lower-length : (n : ℕ) → n < 64 → to_ascii_lowercase n ≡ n
lower-length n small = grind (arith, nat_tests)

-- fronts of one length and what stands behind them
front_same : (xs xs' ys ys' : List ℕ) → length xs ≡ length xs' → xs ++ ys ≡ xs' ++ ys' → xs ≡ xs'
front_same xs xs' ys ys' len same =
    sym (take_at xs ys (length xs) refl) ∙ ap (take (length xs)) same
    ∙ take_at xs' ys' (length xs) (sym len)

back_same : (xs xs' ys ys' : List ℕ) → length xs ≡ length xs' → xs ++ ys ≡ xs' ++ ys' → ys ≡ ys'
back_same xs xs' ys ys' len same =
    sym (drop_at xs ys (length xs) refl) ∙ ap (drop (length xs)) same
    ∙ drop_at xs' ys' (length xs) (sym len)

lowered_wire-label : (octets : ℕ) (label : List ℕ) (labels : List (List ℕ))
    → AreLabels octets (label ∷ labels)
    → lowered_wire (label ∷ labels) ≡ length label ∷ map to_ascii_lowercase label
    ++ lowered_wire labels
lowered_wire-label octets label labels are =
    ap (λ (first : ℕ). first ∷ map to_ascii_lowercase (label ++ name_wire labels))
    (lower-length (length label) are.1)
    ∙ ap (λ (rest : List ℕ). length label ∷ rest)
    (map-append to_ascii_lowercase label (name_wire labels))

-- names with the same octets in lower case have the same labels in lower case
lowered-same : (octets octets' : ℕ) (xs ys : List (List ℕ)) → AreLabels octets xs
    → AreLabels octets' ys → lowered_wire xs ≡ lowered_wire ys → in_lower_case xs ≡ in_lower_case ys
lowered-same octets octets' [] [] are are' same = refl
lowered-same octets octets' [] (y ∷ ys) are are' same =
    absurd (let wire = lowered_wire-label octets' y ys are' in let none : 0 ≡ length y = cc
    in omega (arith, are'.0))
lowered-same octets octets' (x ∷ xs) [] are are' same =
    absurd (let wire = lowered_wire-label octets x xs are in let none : length x ≡ 0 = cc
    in omega (arith, are.0))
lowered-same octets octets' (x ∷ xs) (y ∷ ys) are are' same =
    let wire = lowered_wire-label octets x xs are in
    let wire' = lowered_wire-label octets' y ys are' in
    let long : length x ≡ length y = cc in
    let both : map to_ascii_lowercase x ++ lowered_wire xs
    ≡ map to_ascii_lowercase y ++ lowered_wire ys = cc in
    let len : length (map to_ascii_lowercase x) ≡ length (map to_ascii_lowercase y) =
    length-map x to_ascii_lowercase ∙ long ∙ sym (length-map y to_ascii_lowercase) in
    let first = front_same (map to_ascii_lowercase x) (map to_ascii_lowercase y) (lowered_wire xs)
    (lowered_wire ys) len both in
    let rest = lowered-same (octets + length x + 1) (octets' + length y + 1) xs ys are.3 are'.3
    (back_same (map to_ascii_lowercase x) (map to_ascii_lowercase y) (lowered_wire xs)
    (lowered_wire ys) len both) in
    cc

-- so a test of the octets in lower case tells whether names are the same
pub same_by_octets : (octets others : List ℕ) (xs ys : List (List ℕ)) (test : Bool)
    → octets ≡ name_wire xs → others ≡ name_wire ys → AreLabels 0 xs → AreLabels 0 ys
    → (IsTrue test ↔ (map to_ascii_lowercase octets ≡ map to_ascii_lowercase others))
    → test ≡ is_same_name xs ys
same_by_octets octets others xs ys test wire wire' are are' tells =
    let left = ap (map to_ascii_lowercase) wire in
    let right = ap (map to_ascii_lowercase) wire' in
    one_answer test (is_same_name xs ys) tells (
      λ is. left ∙ lowered_wire-same xs ys is
          ∙ sym right,
      λ same. (same_lowered xs ys).1
          (lowered-same 0 0 xs ys are are' (sym left ∙ same ∙ right)),
    )

-- ---- the order from the last label

then_assoc : (o p q : Ordering)
    → ordering_then (ordering_then o p) q ≡ ordering_then o (ordering_then p q)
then_assoc Less p q = refl
then_assoc Equal p q = refl
then_assoc Greater p q = refl

then_equal : (o : Ordering) → ordering_then o Equal ≡ o
then_equal Less = refl
then_equal Equal = refl
then_equal Greater = refl

-- the order of labels in lower case, octet by octet
abbrev pub label_cmp : List ℕ → List ℕ → Ordering
label_cmp = slice_cmp nat_cmp

-- fronts of one length tell first
slice_cmp-append : (xs ys us vs : List (List ℕ)) → length xs ≡ length ys
    → slice_cmp label_cmp (xs ++ us) (ys ++ vs)
    ≡ ordering_then (slice_cmp label_cmp xs ys) (slice_cmp label_cmp us vs)
slice_cmp-append [] [] us vs len = refl
slice_cmp-append [] (y ∷ ys) us vs len = absurd (omega arith)
slice_cmp-append (x ∷ xs) [] us vs len = absurd (omega arith)
slice_cmp-append (x ∷ xs) (y ∷ ys) us vs len =
    let more : length xs ≡ length ys = omega arith in
    ap (ordering_then (label_cmp x y)) (slice_cmp-append xs ys us vs more)
    ∙ sym (then_assoc (label_cmp x y) (slice_cmp label_cmp xs ys) (slice_cmp label_cmp us vs))

length-from_last : (labels : List (List ℕ)) → length (from_last labels) ≡ length labels
length-from_last labels =
    length-reverse (in_lower_case labels) ∙ length-map labels (map to_ascii_lowercase)

from_last-append : (front back : List (List ℕ))
    → from_last (front ++ back) ≡ from_last back ++ from_last front
from_last-append front back =
    ap reverse (map-append (map to_ascii_lowercase) front back)
    ∙ reverse-append (in_lower_case front) (in_lower_case back)

from_last-label : (label : List ℕ) (labels : List (List ℕ))
    → from_last (label ∷ labels) ≡ from_last labels ++ map to_ascii_lowercase label ∷ []
from_last-label label labels = from_last-append (label ∷ []) labels

-- as many labels of each from the last, and then an order that was told before
abbrev pub cmp_from_last : List (List ℕ) → List (List ℕ) → Ordering → Ordering
cmp_from_last xs ys order = ordering_then (slice_cmp label_cmp (from_last xs) (from_last ys)) order

-- a pair in front of as many labels tells after them
pub cmp_from_last-pair : (all all' : List (List ℕ)) (x y : List ℕ) (xs ys : List (List ℕ))
    (order : Ordering) → all ≡ x ∷ xs → all' ≡ y ∷ ys → length xs ≡ length ys
    → cmp_from_last all all' order
    ≡ cmp_from_last xs ys
    (ordering_then (label_cmp (map to_ascii_lowercase x) (map to_ascii_lowercase y)) order)
cmp_from_last-pair all all' x y xs ys order is is' len =
    let long : length (from_last xs) ≡ length (from_last ys) =
    length-from_last xs ∙ len ∙ sym (length-from_last ys) in
    let pair = label_cmp (map to_ascii_lowercase x) (map to_ascii_lowercase y) in
    let whole = slice_cmp-append (from_last xs) (from_last ys) (map to_ascii_lowercase x ∷ [])
    (map to_ascii_lowercase y ∷ []) long in
    rw (is, is', from_last-label x xs, from_last-label y ys, whole, then_equal pair)
    (then_assoc (slice_cmp label_cmp (from_last xs) (from_last ys)) pair order)

-- where one side has no labels, the counts tell
counts_tell : (us vs : List (List ℕ)) (count count' : ℕ) → length us ≡ count - count'
    → length vs ≡ count' - count → slice_cmp label_cmp us vs ≡ nat_cmp count count'
counts_tell [] [] count count' few few' = grind (arith, nat_tests)
counts_tell [] (v ∷ vs) count count' few few' = grind (arith, nat_tests)
counts_tell (u ∷ us) [] count count' few few' = grind (arith, nat_tests)
counts_tell (u ∷ us) (v ∷ vs) count count' few few' = absurd (omega arith)

-- what a name has more labels than the other is passed over, and then the counts tell last
pub name_cmp-last : (xs ys : List (List ℕ))
    → name_cmp xs ys
    ≡ cmp_from_last (drop (length xs - length ys) xs) (drop (length ys - length xs) ys)
    (nat_cmp (length xs) (length ys))
name_cmp-last xs ys =
    let n = length xs - length ys in
    let k = length ys - length xs in
    let long : length (from_last (drop n xs)) ≡ length (from_last (drop k ys)) =
    omega (
      arith,
      length-from_last (drop n xs),
      length-from_last
          (drop k ys),
      length-drop n xs,
      length-drop k ys,
    ) in
    let more : length (from_last (take n xs)) ≡ n =
    omega (arith, length-from_last (take n xs), length-take n xs) in
    let more' : length (from_last (take k ys)) ≡ k =
    omega (arith, length-from_last (take k ys), length-take k ys) in
    let split : from_last xs ≡ from_last (drop n xs) ++ from_last (take n xs) =
    ap from_last (sym (take-append-drop n xs)) ∙ from_last-append (take n xs) (drop n xs) in
    let split' : from_last ys ≡ from_last (drop k ys) ++ from_last (take k ys) =
    ap from_last (sym (take-append-drop k ys)) ∙ from_last-append (take k ys) (drop k ys) in
    ap (λ (us : List (List ℕ)). slice_cmp label_cmp us (from_last ys)) split
    ∙ ap (slice_cmp label_cmp (from_last (drop n xs) ++ from_last (take n xs))) split'
    ∙ slice_cmp-append (from_last (drop n xs)) (from_last (drop k ys)) (from_last (take n xs))
    (from_last (take k ys)) long
    ∙ ap (ordering_then (slice_cmp label_cmp (from_last (drop n xs)) (from_last (drop k ys))))
    (counts_tell (from_last (take n xs)) (from_last (take k ys)) (length xs) (length ys) more more')

pub ruleset pair_rules = (cmp_from_last-pair)

pub ruleset order_rules = (name_cmp-last)
