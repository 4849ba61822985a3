-- Numbers in ascending order, as a list and as the keys of a set.
use Rattle.std.proofs.Common.{◌≡◌, ℕ, Bool, true, false, cond, ◌||◌, List, [], ◌∷◌, ◌++◌, refl, sym, ap, ◌∙◌, arith}
use Rattle.std.specs.Prelude.{◌==◌, not, nat_lt, nat_le}
use Rattle.std.proofs.lemmas.List.Folds.{list_any-append}
use Rattle.std.specs.List.{list_any}
use Rattle.std.specs.Ordering.{nat_cmp, match_ordering}
use Rattle.std.specs.declared.cmp.Ordering.TheVariants.{Less, Equal, Greater}
use Rattle.std.specs.BTreeMap.{is_at}
use Rattle.std.specs.BTreeSet.{insert_key}
use Rattle.std.proofs.lemmas.Bool.Decides.{nat_tests}
use Rattle.std.specs.Cmp.{unsigned_tied}
use Rattle.svcb_spec.specs.ValueTexts.{insert_ascending, in_ascending_order}

-- ---- tests

-- whether a number is among others
abbrev pub has : List ℕ → ℕ → Bool
has numbers n = list_any (λ m. m == n) numbers

or_swap : (a b c : Bool) → (a || (b || c)) ≡ (b || (a || c))
or_swap true true c = refl
or_swap true false c = refl
or_swap false true c = refl
or_swap false false c = refl

or_first : (a b : Bool) → (a || b) ≡ false → a ≡ false
or_first true b e = cc
or_first false b e = refl

or_second : (a b : Bool) → (a || b) ≡ false → b ≡ false
or_second true b e = absurd cc
or_second false b e = e

test_swap : (n m : ℕ) → (n == m) ≡ (m == n)
test_swap n m = elim (m == n) as (λ b. (m == n) ≡ b → (n == m) ≡ b) [
  | true ↦ λ e. grind (arith, nat_tests)
  | false ↦ λ e. grind (arith, nat_tests)
] refl

-- a set has a key where the list of its keys has it
pub has-set : (keys : List ℕ) (n : ℕ) → list_any (is_at (nat_cmp n)) keys ≡ has keys n
has-set [] n = refl
has-set (m ∷ keys) n =
    ap (λ b. b || list_any (is_at (nat_cmp n)) keys) (unsigned_tied n m ∙ test_swap n m)
    ∙ ap (λ b. (m == n) || b) (has-set keys n)

-- ---- a number at its place

pub has-insert_ascending : (k : ℕ) (numbers : List ℕ) (n : ℕ)
    → has (insert_ascending k numbers) n ≡ ((k == n) || has numbers n)
has-insert_ascending k [] n = refl
has-insert_ascending k (m ∷ numbers) n =
    elim (nat_le k m) as
    (λ b. has (cond b (k ∷ m ∷ numbers) (m ∷ insert_ascending k numbers)) n
    ≡ ((k == n) || ((m == n) || has numbers n))) [
      | true ↦ refl
      | false ↦ ap (λ b. (m == n) || b) (has-insert_ascending k numbers n)
          ∙ or_swap (m == n) (k == n) (has numbers n)
    ]

-- a set takes a new key at its place
pub insert_key-new : (keys : List ℕ) (k : ℕ) → has keys k ≡ false
    → insert_key nat_cmp keys k ≡ insert_ascending k keys
insert_key-new [] k new = refl
insert_key-new (m ∷ keys) k new =
    let other : (m == k) ≡ false = or_first (m == k) (has keys k) new in
    let later : has keys k ≡ false = or_second (m == k) (has keys k) new in
    let apart : (k == m) ≡ false = test_swap k m ∙ other in
    elim (nat_lt k m) as (λ b. nat_lt k m ≡ b
    → match_ordering (cond b Less (cond (k == m) Equal Greater)) (k ∷ m ∷ keys) (m ∷ keys)
    (m ∷ insert_key nat_cmp keys k)
    ≡ cond (nat_le k m) (k ∷ m ∷ keys) (m ∷ insert_ascending k keys)) [
      | true ↦ λ e. let below : nat_le k m ≡ true = grind (arith, nat_tests) in rw below refl
      | false ↦ λ e.
          let above : nat_le k m ≡ false = grind (arith, nat_tests) in
          rw (above, apart) (ap (λ (more : List ℕ). m ∷ more) (insert_key-new keys k later))
    ] refl

-- ---- numbers in ascending order

pub has-ascending : (numbers : List ℕ) (n : ℕ) → has (in_ascending_order numbers) n ≡ has numbers n
has-ascending [] n = refl
has-ascending (m ∷ numbers) n =
    has-insert_ascending m (in_ascending_order numbers) n
    ∙ ap (λ b. (m == n) || b) (has-ascending numbers n)

-- two numbers are at their places, whichever comes first
insert_ascending-swap : (a b : ℕ) (numbers : List ℕ)
    → insert_ascending a (insert_ascending b numbers)
    ≡ insert_ascending b (insert_ascending a numbers)
insert_ascending-swap a b [] = grind (arith, nat_tests)
insert_ascending-swap a b (m ∷ numbers) =
    grind (arith, nat_tests, insert_ascending-swap a b numbers)

pub ascending-last : (numbers : List ℕ) (n : ℕ)
    → in_ascending_order (numbers ++ n ∷ []) ≡ insert_ascending n (in_ascending_order numbers)
ascending-last [] n = refl
ascending-last (m ∷ numbers) n =
    ap (insert_ascending m) (ascending-last numbers n)
    ∙ insert_ascending-swap m n (in_ascending_order numbers)

-- ---- a set that is to have a number

negated : (a b : Bool) → a ≡ not b → a ≡ true → b ≡ false
negated a true is e = absurd cc
negated a false is e = refl

denied : (a b : Bool) → a ≡ not b → a ≡ false → b ≡ true
denied a true is e = refl
denied a false is e = absurd cc

-- a set tells whether it took a number
pub set_took : (keys : List ℕ) (n : ℕ) (added : Bool)
    → added ≡ not (list_any (is_at (nat_cmp n)) keys) → added ≡ true → has keys n ≡ false
set_took keys n added is e =
    sym (has-set keys n) ∙ negated added (list_any (is_at (nat_cmp n)) keys) is e

pub set_had : (keys : List ℕ) (n : ℕ) (added : Bool)
    → added ≡ not (list_any (is_at (nat_cmp n)) keys) → added ≡ false → has keys n ≡ true
set_had keys n added is e =
    sym (has-set keys n) ∙ denied added (list_any (is_at (nat_cmp n)) keys) is e

or_last : (a b : Bool) → (b || (a || false)) ≡ (a || b)
or_last true true = refl
or_last true false = refl
or_last false true = refl
or_last false false = refl

-- a set and a list that have the same numbers take one more
pub has-both : (keys numbers : List ℕ) (k : ℕ) → ((n : ℕ) → has keys n ≡ has numbers n)
    → has keys k ≡ false
    → (n : ℕ) → has (insert_key nat_cmp keys k) n ≡ has (numbers ++ k ∷ []) n
has-both keys numbers k same new n =
    ap (λ (ks : List ℕ). has ks n) (insert_key-new keys k new) ∙ has-insert_ascending k keys n
    ∙ ap (λ b. (k == n) || b) (same n)
    ∙ sym (list_any-append (λ m. m == n) numbers (k ∷ []) ∙ or_last (k == n) (has numbers n))
