-- Numbers of which none stands twice, and the rule that tells each from those before it.
use Rattle.std.proofs.Common.{◌≡◌, ℕ, Bool, true, false, cond, not, ◌||◌, List, [], ◌∷◌, ◌++◌, Ok, Err, refl, sym, ap, ◌∙◌, arith}
use Rattle.std.specs.Prelude.{◌==◌}
use Rattle.std.specs.List.{list_any, AllByRecursion}
use Rattle.std.proofs.lemmas.Bool.{and_parts, and_from, or_parts}
use Rattle.std.proofs.lemmas.Bool.Decides.{nat_tests}
use Rattle.std.proofs.lemmas.List.Folds.{list_any-append}
use Rattle.text_spec.specs.declared.errors.ScanError.TheVariants.{DuplicateItem}
use Rattle.svcb_spec.specs.ValueTexts.{new_item}
use Rattle.svcb_spec.specs.PrintedParams.{are_distinct}
use Rattle.svcb_laws.proofs.PlainLists.{AllNew}

abbrev pub is_in : List ℕ → ℕ → Bool
is_in numbers n = list_any (λ m. m == n) numbers

abbrev AreNew : List ℕ → List ℕ → Type 0
AreNew before numbers = AllByRecursion (λ n. is_in before n ≡ false) numbers

pub or_false : (a b : Bool) → a ≡ false → b ≡ false → (a || b) ≡ false
or_false a b is is' = rw is is'

not_true : (b : Bool) → not b ≡ true → b ≡ false
not_true true is = absurd cc
not_true false is = refl

same_test : (n m : ℕ) → (n == m) ≡ false → (m == n) ≡ false
same_test n m other = grind (arith, nat_tests)

-- a number in front of others is none before them
new_behind : (before : List ℕ) (n : ℕ) (numbers : List ℕ) → AreNew before numbers
    → is_in numbers n ≡ false → AreNew (before ++ n ∷ []) numbers
new_behind before n [] new other = tt
new_behind before n (m ∷ numbers) new other =
    let parts = or_parts (m == n) (is_in numbers n) other in (
      list_any-append (λ k. k == m) before (n ∷ [])
          ∙ or_false (is_in before m) (is_in (n ∷ []) m) new.0
          (or_false (n == m) false (same_test m n parts.0) refl),
      new_behind before n numbers new.1 parts.1,
    )

-- and where it is one before them it isn't among them
new_apart : (before : List ℕ) (n : ℕ) (numbers : List ℕ) → AreNew (before ++ n ∷ []) numbers
    → AreNew before numbers × (is_in numbers n ≡ false)
new_apart before n [] new = (tt, refl)
new_apart before n (m ∷ numbers) new =
    let here = or_parts (is_in before m) (is_in (n ∷ []) m)
    (sym (list_any-append (λ k. k == m) before (n ∷ [])) ∙ new.0) in
    let other = or_parts (n == m) false here.1 in
    let rest = new_apart before n numbers new.1 in
    ((here.0, rest.0), or_false (m == n) (is_in numbers n) (same_test n m other.0) rest.1)

none_before : (numbers : List ℕ) → AreNew [] numbers
none_before [] = tt
none_before (n ∷ numbers) = (refl, none_before numbers)

pub new_again : (before : List ℕ) (n : ℕ) → is_in before n ≡ false → new_item before n ≡ Ok n
new_again before n new = ap (λ b. cond b (Err DuplicateItem) (Ok n)) new

pub new_item-ok : (before : List ℕ) (n m : ℕ) → new_item before n ≡ Ok m
    → (n ≡ m) × (is_in before n ≡ false)
new_item-ok before n m =
    elim (is_in before n) as (λ b. is_in before n ≡ b → cond b (Err DuplicateItem) (Ok n) ≡ Ok m
    → (n ≡ m) × (is_in before n ≡ false)) [
      | true ↦ λ twice is. absurd cc
      | false ↦ λ new is. (cc, new)
    ] refl

-- a number of a kind, new to those before it
abbrev pub IsNew : (ℕ → Type 0) → List ℕ → ℕ → Type 0
IsNew P before n = P n × (is_in before n ≡ false)

all_new-apart : (P : ℕ → Type 0) (before numbers : List ℕ) → AllNew (IsNew P) before numbers
    → AllByRecursion P numbers × AreNew before numbers × (are_distinct numbers ≡ true)
all_new-apart P before [] new = (tt, tt, refl)
all_new-apart P before (n ∷ numbers) new =
    let rest = all_new-apart P (before ++ n ∷ []) numbers new.1 in
    let apart = new_apart before n numbers rest.1 in (
      (new.0.0, rest.0),
      (new.0.1, apart.0),
      and_from (not (is_in numbers n)) (are_distinct numbers)
          (ap not apart.1) rest.2,
    )

-- numbers that are each new to those before them are distinct
pub all_new-distinct : (P : ℕ → Type 0) (numbers : List ℕ) → AllNew (IsNew P) [] numbers
    → AllByRecursion P numbers × (are_distinct numbers ≡ true)
all_new-distinct P numbers new = let apart = all_new-apart P [] numbers new in (apart.0, apart.2)

apart-all_new : (P : ℕ → Type 0) (before numbers : List ℕ) → AllByRecursion P numbers → AreNew before numbers
    → are_distinct numbers ≡ true → AllNew (IsNew P) before numbers
apart-all_new P before [] are new distinct = tt
apart-all_new P before (n ∷ numbers) are new distinct =
    let parts = and_parts (not (is_in numbers n)) (are_distinct numbers) distinct in
    let other = not_true (is_in numbers n) parts.0 in (
      (are.0, new.0),
      apart-all_new P (before ++ n ∷ []) numbers are.1
          (new_behind before n numbers new.1 other) parts.1,
    )

-- and distinct numbers are
pub distinct-all_new : (P : ℕ → Type 0) (numbers : List ℕ) → AllByRecursion P numbers
    → are_distinct numbers ≡ true → AllNew (IsNew P) [] numbers
distinct-all_new P numbers are distinct =
    apart-all_new P [] numbers are (none_before numbers) distinct
