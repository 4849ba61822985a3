-- Sums over a list that a permutation keeps, and maps that they fix.
use Rattle.std.proofs.Common.{◌≡◌, ℕ, ◌+◌, ◌<◌, ◌≤◌, Bool, true, false, not, ◌&&◌, ◌||◌, IsPermutation, List, [], ◌∷◌, ◌++◌, sum_by, inl, inr, refl, sym, ap, ap₂, ◌∙◌, subst, arith}
use Rattle.std.specs.Prelude.{◌==◌, bytes_eq}
use Rattle.std.specs.List.{list_all, list_any}
use Rattle.std.proofs.lemmas.Bool.{cases_lt, and_parts}
use Rattle.std.proofs.lemmas.Bool.Decides.{nat_tests}
use Rattle.std.proofs.lemmas.List.Sorted.{sum_by-IsPermutation, list_any-IsPermutation}
use Rattle.std.proofs.lemmas.List.Sums.{sum_by-cons}
use Rattle.std.proofs.lemmas.Slice.Eq.{bytes_eq-Decides}
use Rattle.svcb_spec.specs.Params.{Pair, Pairs}

-- ---- sums

module _ {A : Type 0} where
  -- the sum of a number for each item
  abbrev pub tally : (A → ℕ) → List A → ℕ
  tally f [] = 0
  tally f (x ∷ xs) = f x + tally f xs

  tally-sum_by : (f : A → ℕ) (xs : List A) → sum_by f xs ≡ tally f xs
  tally-sum_by f [] = refl
  tally-sum_by f (x ∷ xs) = sum_by-cons f x xs ∙ ap (λ n. f x + n) (tally-sum_by f xs)

  pub tally-IsPermutation : (f : A → ℕ) (xs ys : List A) → IsPermutation xs ys
      → tally f xs ≡ tally f ys
  tally-IsPermutation f xs ys same =
      sym (tally-sum_by f xs) ∙ sym (sum_by-IsPermutation f xs ys same) ∙ tally-sum_by f ys

  pub tally-append : (f : A → ℕ) (xs ys : List A) → tally f (xs ++ ys) ≡ tally f xs + tally f ys
  tally-append f [] ys = omega arith
  tally-append f (x ∷ xs) ys = omega (arith, tally-append f xs ys)

  list_all-any : (test : A → Bool) (xs : List A)
      → list_all test xs ≡ not (list_any (λ x. not (test x)) xs)
  list_all-any test [] = refl
  list_all-any test (x ∷ xs) =
      elim (test x) as
      (λ b. (b && list_all test xs) ≡ not (not b || list_any (λ y. not (test y)) xs)) [
        | true ↦ list_all-any test xs
        | false ↦ refl
      ]

  pub list_all-IsPermutation : (test : A → Bool) (xs ys : List A) → IsPermutation xs ys
      → list_all test xs ≡ list_all test ys
  list_all-IsPermutation test xs ys same =
      list_all-any test xs ∙ ap not (list_any-IsPermutation (λ x. not (test x)) xs ys same)
      ∙ sym (list_all-any test ys)

  pub list_all-same : (test other : A → Bool) (xs : List A) → ((x : A) → test x ≡ other x)
      → list_all test xs ≡ list_all other xs
  list_all-same test other [] same = refl
  list_all-same test other (x ∷ xs) same =
      ap₂ (λ a b. a && b) (same x) (list_all-same test other xs same)

-- ---- maps

-- keys ascend strictly and are at least `least`
abbrev pub AscendsKeys : ℕ → Pairs → Type 0
AscendsKeys least [] = Unit {0}
AscendsKeys least (pair ∷ pairs) = (least ≤ pair.0) × AscendsKeys (pair.0 + 1) pairs

-- nothing is counted where only lower keys would be
none_counted : (f : Pair → ℕ) (key least : ℕ) (pairs : Pairs)
    → ((pair : Pair) → key < pair.0 → f pair ≡ 0) → key < least → AscendsKeys least pairs
    → tally f pairs ≡ 0
none_counted f key least [] zero_above lower ascends = refl
none_counted f key least (pair ∷ pairs) zero_above lower ascends =
    let here = zero_above pair (omega (arith, ascends.0)) in
    let rest = none_counted f key (pair.0 + 1) pairs zero_above
    (omega (arith, ascends.0)) ascends.1 in
    omega (arith, here, rest)

-- one where a test passes
abbrev pub one_if : Bool → ℕ
one_if true = 1
one_if false = 0

-- one for each pair of a key
abbrev pub of_key : ℕ → Pair → ℕ
of_key key pair = one_if (pair.0 == key)

-- one for each pair that is this one
abbrev of_pair : Pair → Pair → ℕ
of_pair pair other = one_if ((other.0 == pair.0) && bytes_eq other.1 pair.1)

pub same_number : (n : ℕ) → (n == n) ≡ true
same_number n = grind (arith, nat_tests)

not_equal : (n m : ℕ) → n < m → (m == n) ≡ false
not_equal n m below = grind (arith, nat_tests)

pub is_equal : (n m : ℕ) → (n == m) ≡ true → n ≡ m
is_equal n m same = grind (arith, nat_tests)

of_key-above : (key : ℕ) (pair : Pair) → key < pair.0 → of_key key pair ≡ 0
of_key-above key pair above = ap (λ b. one_if b) (not_equal key pair.0 above)

of_key-same : (pair : Pair) → of_key pair.0 pair ≡ 1
of_key-same pair = ap (λ b. one_if b) (same_number pair.0)

of_pair-above : (pair other : Pair) → pair.0 < other.0 → of_pair pair other ≡ 0
of_pair-above pair other above =
    ap (λ b. one_if (b && bytes_eq other.1 pair.1)) (not_equal pair.0 other.0 above)

of_pair-same : (pair : Pair) → of_pair pair pair ≡ 1
of_pair-same pair =
    ap (λ b. one_if (b && bytes_eq pair.1 pair.1)) (same_number pair.0)
    ∙ ap (λ b. one_if b) ((bytes_eq-Decides pair.1 pair.1).1 refl)

counted : (b : Bool) → one_if b ≡ 1 → b ≡ true
counted true is = refl
counted false is = absurd (omega (arith, is))

of_pair-is : (pair other : Pair) → of_pair pair other ≡ 1 → pair ≡ other
of_pair-is pair other is =
    let both = and_parts (other.0 == pair.0) (bytes_eq other.1 pair.1)
    (counted ((other.0 == pair.0) && bytes_eq other.1 pair.1) is) in
    ap₂ (λ key octets. (key, octets)) (sym (is_equal other.0 pair.0 both.0))
    (sym ((bytes_eq-Decides other.1 pair.1).0 both.1))

-- where the first keys differ, the lower one is counted in one map alone
lower_first : (pair other : Pair) (pairs others : Pairs) → AscendsKeys (other.0 + 1) others
    → pair.0 < other.0
    → tally (of_key pair.0) (pair ∷ pairs) ≡ tally (of_key pair.0) (other ∷ others) → ⊥
lower_first pair other pairs others ascends lower same =
    let one = of_key-same pair in
    let none = none_counted (of_key pair.0) pair.0 other.0 (other ∷ others)
    (of_key-above pair.0) lower (omega arith, ascends) in
    omega (arith, one, none, same)

-- maps in which all is counted alike are the same
pub same_maps : (least : ℕ) (pairs others : Pairs) → AscendsKeys least pairs
    → AscendsKeys least others
    → ((f : Pair → ℕ) → tally f pairs ≡ tally f others) → pairs ≡ others
same_maps least [] [] ascends ascends' same = refl
same_maps least [] (other ∷ others) ascends ascends' same = absurd (omega (arith, same (λ p. 1)))
same_maps least (pair ∷ pairs) [] ascends ascends' same = absurd (omega (arith, same (λ p. 1)))
same_maps least (pair ∷ pairs) (other ∷ others) ascends ascends' same =
    elim (cases_lt pair.0 other.0) [
      | inl lower ↦ absurd (lower_first pair other pairs others ascends'.1 lower (same (of_key pair.0)))
      | inr not_lower ↦ elim (cases_lt other.0 pair.0) [
        | inl lower ↦ absurd
            (lower_first other pair others pairs ascends.1 lower (sym (same (of_key other.0))))
        | inr not_higher ↦
            let key : pair.0 ≡ other.0 = omega arith in
            let one = of_pair-same pair in
            let none = none_counted (of_pair pair) pair.0 (pair.0 + 1) pairs (of_pair-above pair)
            (omega arith) ascends.1 in
            let none' = none_counted (of_pair pair) pair.0 (other.0 + 1) others (of_pair-above pair)
            (omega arith) ascends'.1 in
            let is : pair ≡ other =
            of_pair-is pair other (omega (arith, one, none, none', same (of_pair pair))) in
            let rest = same_maps (pair.0 + 1) pairs others ascends.1
            (subst (λ n. AscendsKeys (n + 1) others) (sym key) ascends'.1)
            (λ f. omega (arith, same f, ap f is)) in
            ap₂ (λ (p : Pair) (ps : Pairs). p ∷ ps) is rest
      ]
    ]
