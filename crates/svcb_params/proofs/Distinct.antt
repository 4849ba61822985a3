-- Numbers that are distinct, by a set of those that were met.
use Rattle.std.proofs.Common.{◌≡◌, ℕ, ◌/◌, ◌%◌, ◌^◌, Bool, true, false, ◌||◌, List, [], ◌∷◌, refl, sym, ap, ◌∙◌, arith, bit_and, inl, inr}
use Rattle.std.specs.Prelude.{◌==◌, ◌&&◌, not, replicate, slice_index}
use Rattle.std.specs.List.{list_all, list_any}
use Rattle.std.proofs.lemmas.Bool.{cases_lt, and_right}
use Rattle.std.proofs.lemmas.List.{get_or-replicate, get_or_past, length-replicate}
use Rattle.std.proofs.lemmas.Nat.{and_le_l}
use Rattle.svcb_spec.specs.PrintedParams.{are_distinct}
use Rattle.svcb_params.specs.NumberSets.{has_number}
use Rattle.svcb_params.proofs.Tests.{test_swap, and_true}

-- ---- the set without numbers

no_bits : (n : ℕ) → bit_and 0 n ≡ 0
no_bits n = omega (arith, and_le_l 0 n)

all_zero : (count i : ℕ) → slice_index (replicate count 0) i ≡ 0
all_zero count i = elim (cases_lt i count) [
  | inl low ↦ get_or-replicate count i 0 0 low
  | inr past ↦ get_or_past (replicate count 0) i 0
      (omega (arith, length-replicate {A = ℕ} count 0, past))
]

pub none_met : (count n : ℕ) → has_number (replicate count 0) n ≡ false
none_met count n =
    ap (λ w. not (bit_and w (2 ^ (n % 64)) == 0)) (all_zero count (n / 64))
    ∙ ap (λ b. not (b == 0)) (no_bits (2 ^ (n % 64)))

-- ---- the walk

-- numbers that a set doesn't have
abbrev pub not_met : List ℕ → List ℕ → Bool
not_met words numbers = list_all (λ n. not (has_number words n)) numbers

-- numbers are distinct, and a set has none of them
abbrev pub distinct_from : List ℕ → List ℕ → Bool
distinct_from words numbers = are_distinct numbers && not_met words numbers

all_new : (words : List ℕ) (numbers : List ℕ) → ((n : ℕ) → has_number words n ≡ false)
    → not_met words numbers ≡ true
all_new words [] none = refl
all_new words (n ∷ numbers) none =
    ap (λ b. not b && not_met words numbers) (none n) ∙ all_new words numbers none

pub distinct_at_first : (words numbers : List ℕ) → ((n : ℕ) → has_number words n ≡ false)
    → are_distinct numbers ≡ distinct_from words numbers
distinct_at_first words numbers none =
    sym (ap (λ b. are_distinct numbers && b) (all_new words numbers none)
    ∙ and_true (are_distinct numbers))

pub met_again : (words : List ℕ) (n : ℕ) (numbers : List ℕ) → has_number words n ≡ true
    → distinct_from words (n ∷ numbers) ≡ false
met_again words n numbers met = and_right _ _ (ap (λ b. not b && not_met words numbers) met)

two_tests : (e h a rest : Bool)
    → (not (e || h) && (not a && rest)) ≡ (not (e || a) && (not h && rest))
two_tests true h a rest = refl
two_tests false true true rest = refl
two_tests false true false rest = refl
two_tests false false a rest = refl

three_tests : (a d rest : Bool) → ((a && d) && rest) ≡ (d && (a && rest))
three_tests true true rest = refl
three_tests true false rest = refl
three_tests false true rest = refl
three_tests false false rest = refl

module _ (words more : List ℕ) (n : ℕ)
    (adds : (m : ℕ) → has_number more m ≡ ((n == m) || has_number words m)) where
  not_met_more : (numbers : List ℕ)
      → not_met more numbers ≡ (not (list_any (λ m. m == n) numbers) && not_met words numbers)
  not_met_more [] = refl
  not_met_more (m ∷ numbers) =
      let added : has_number more m ≡ ((m == n) || has_number words m) =
      adds m ∙ ap (λ b. b || has_number words m) (test_swap n m) in
      ap (λ b. not b && not_met more numbers) added
      ∙ ap (λ b. not ((m == n) || has_number words m) && b) (not_met_more numbers)
      ∙ two_tests (m == n) (has_number words m) (list_any (λ m. m == n) numbers)
      (not_met words numbers)

  pub met_now : (numbers : List ℕ) → has_number words n ≡ false
      → distinct_from words (n ∷ numbers) ≡ distinct_from more numbers
  met_now numbers new =
      ap (λ b. are_distinct (n ∷ numbers) && (not b && not_met words numbers)) new
      ∙ three_tests (not (list_any (λ m. m == n) numbers)) (are_distinct numbers)
      (not_met words numbers)
      ∙ ap (λ b. are_distinct numbers && b) (sym (not_met_more numbers))

pub ruleset distinct_rules = (distinct_at_first, met_again, met_now)
