-- The pairs at a place, by what stands there. Offered to the crates above: `pair_rules`, for
-- functions that read pairs step by step.
use Rattle.std.proofs.Common.{◌≡◌, ◌≢◌, ℕ, zero, suc, ◌+◌, ◌-◌, ◌<◌, ◌≤◌, true, false, List, [], Option, Some, Result, Ok, Err, refl, ◌∙◌, arith}
use Rattle.std.specs.Prelude.{slice_range}
use Rattle.std.proofs.lemmas.Bool.Decides.{nat_tests}
use Rattle.name_spec.specs.Octets.{Fault, Short, Form, number_at}
use Rattle.svcb_spec.specs.Params.{Pairs, with_pair, is_above, pairs_step, pairs_within, pairs_at}

abbrev Reading : Type 0
Reading = ℕ → Option ℕ → Result Pairs Fault

-- a step reads on only behind its place and up to the end
pairs_step-alike : (f g : Reading) (message : List ℕ) (end pos : ℕ) (last : Option ℕ)
    → ((pos' : ℕ) (last' : Option ℕ) → pos < pos' → pos' ≤ end → f pos' last' ≡ g pos' last')
    → pairs_step f message end pos last ≡ pairs_step g message end pos last
unfolding pairs_step
pairs_step-alike f g message end pos last alike =
    grind (
      arith,
      nat_tests,
      alike (pos + 4 + number_at message (pos + 2))
          (Some (number_at message pos)),
    )

-- more steps than there are octets left read no further
pairs_within-alike : (n k : ℕ) (message : List ℕ) (end pos : ℕ) (last : Option ℕ) → end - pos ≤ n
    → end - pos ≤ k
    → pairs_within n message end pos last ≡ pairs_within k message end pos last
unfolding pairs_within
pairs_within-alike zero zero message end pos last few_n few_k = refl
pairs_within-alike zero (suc k) message end pos last few_n few_k =
    pairs_step-alike _ _ message end pos last (λ pos' last' behind within. absurd (omega arith))
pairs_within-alike (suc n) zero message end pos last few_n few_k =
    pairs_step-alike _ _ message end pos last (λ pos' last' behind within. absurd (omega arith))
pairs_within-alike (suc n) (suc k) message end pos last few_n few_k =
    pairs_step-alike _ _ message end pos last
    (λ pos' last' behind within. pairs_within-alike n k message end pos' last' (omega arith)
    (omega arith))

-- `pairs_at` is its own step: the number of steps that it allows is of no account
pub pairs_at-step : (message : List ℕ) (end pos : ℕ) (last : Option ℕ)
    → pairs_at message end pos last ≡ pairs_step (pairs_at message end) message end pos last
unfolding pairs_at pairs_within
pairs_at-step message end pos last =
    pairs_within-alike (end - pos) (suc (end - pos)) message end pos last (omega arith)
    (omega arith)
    ∙ pairs_step-alike _ _ message end pos last
    (λ pos' last' behind within. pairs_within-alike (end - pos) (end - pos') message end pos' last'
    (omega arith) (omega arith))

module _ (message : List ℕ) (end pos : ℕ) (last : Option ℕ) where
  step_by : (answer : Result Pairs Fault) → pairs_step (pairs_at message end) message end pos last
      ≡ answer → pairs_at message end pos last ≡ answer
  step_by answer is = pairs_at-step message end pos last ∙ is

  pub pairs_at-end : pos ≡ end → pairs_at message end pos last ≡ Ok []
  unfolding pairs_step
  pairs_at-end here = step_by _ (grind (arith, nat_tests))

  pub pairs_at-short_key : pos ≢ end → end < pos + 2 → pairs_at message end pos last ≡ Err Short
  unfolding pairs_step
  pairs_at-short_key here short = step_by _ (grind (arith, nat_tests))

  pub pairs_at-low_key : pos + 2 ≤ end → is_above last (number_at message pos) ≡ false
      → pairs_at message end pos last ≡ Err Form
  unfolding pairs_step
  pairs_at-low_key here low = step_by _ (grind (arith, nat_tests))

  pub pairs_at-short_len : pos + 2 ≤ end → is_above last (number_at message pos) ≡ true
      → end < pos + 4
      → pairs_at message end pos last ≡ Err Short
  unfolding pairs_step
  pairs_at-short_len here above short = step_by _ (grind (arith, nat_tests))

  pub pairs_at-short_value : pos + 4 ≤ end → is_above last (number_at message pos) ≡ true
      → end < pos + 4 + number_at message (pos + 2)
      → pairs_at message end pos last ≡ Err Short
  unfolding pairs_step
  pairs_at-short_value here above short = step_by _ (grind (arith, nat_tests))

  pub pairs_at-pair : is_above last (number_at message pos) ≡ true
      → pos + 4 + number_at message (pos + 2) ≤ end
      → pairs_at message end pos last
      ≡ with_pair (
        number_at message pos,
        slice_range message (pos + 4)
            (pos + 4 + number_at message (pos + 2)),
      )
      (pairs_at message end (pos + 4 + number_at message (pos + 2)) (Some (number_at message pos)))
  unfolding pairs_step
  pairs_at-pair above here = step_by _ (grind (arith, nat_tests))

-- every case of the pairs at a place
pub ruleset pair_rules = (
  pairs_at-end,
  pairs_at-short_key,
  pairs_at-low_key,
  pairs_at-short_len,
  pairs_at-short_value,
  pairs_at-pair,
)
