-- Laws of reading a name: the equations of `name_at` and `is_pointed`, and what they are by the
-- octet at the place. Offered to the crates above: `name_rules` and `pointed_rules`, for functions
-- that read a name step by step.
use Rattle.std.proofs.Common.{◌≡◌, ℕ, zero, suc, ◌+◌, ◌-◌, ◌*◌, ◌%◌, ◌<◌, ◌≤◌, ◌⊎◌, Bool, true, false, List, [], Result, Ok, Err, refl, ◌∙◌, arith, get_or}
use Rattle.std.specs.Prelude.{slice_range}
use Rattle.std.proofs.lemmas.Bool.Decides.{nat_tests}
use Rattle.name_spec.specs.Octets.{Fault, Short, Form}
use Rattle.name_spec.specs.Names.{NameRead, Reading, with_label, by_pointer, name_step, name_within, name_at, pointed_step, pointed_within, is_pointed}

-- ---- the equation of `name_at`

-- the number of steps that `name_at` takes at most
abbrev pub steps_left : ℕ → ℕ → ℕ
steps_left octets pointers = (254 - octets) + (255 - pointers)

-- a step asks only where fewer steps are left
pub name_step-alike : (f g : Reading) (message : List ℕ) (end pos octets pointers : ℕ)
    → ((pos' octets' pointers' : ℕ) → steps_left octets' pointers' < steps_left octets pointers
    → f pos' octets' pointers' ≡ g pos' octets' pointers')
    → name_step f message end pos octets pointers ≡ name_step g message end pos octets pointers
unfolding name_step
name_step-alike f g message end pos octets pointers same = grind (arith, nat_tests, same)

-- more steps than are left change nothing
pub name_within-alike : (n k : ℕ) (message : List ℕ) (end pos octets pointers : ℕ)
    → steps_left octets pointers ≤ n → steps_left octets pointers ≤ k
    → name_within n message end pos octets pointers ≡ name_within k message end pos octets pointers
unfolding name_within
name_within-alike zero zero message end pos octets pointers in_n in_k = refl
name_within-alike zero (suc k) message end pos octets pointers in_n in_k =
    name_step-alike _ _ message end pos octets pointers
    (λ pos' octets' pointers' fewer. absurd (omega arith))
name_within-alike (suc n) zero message end pos octets pointers in_n in_k =
    name_step-alike _ _ message end pos octets pointers
    (λ pos' octets' pointers' fewer. absurd (omega arith))
name_within-alike (suc n) (suc k) message end pos octets pointers in_n in_k =
    name_step-alike _ _ message end pos octets pointers
    (λ pos' octets' pointers' fewer. name_within-alike n k message end pos' octets' pointers'
    (omega arith) (omega arith))

-- `name_at` is `name_step` of itself
pub name_at-step : (message : List ℕ) (end pos octets pointers : ℕ)
    → name_at message end pos octets pointers
    ≡ name_step (name_at message end) message end pos octets pointers
unfolding name_at name_within
name_at-step message end pos octets pointers =
    let n = steps_left octets pointers in
    name_within-alike n (suc n) message end pos octets pointers (omega arith) (omega arith)
    ∙ name_step-alike _ _ message end pos octets pointers
    (λ pos' octets' pointers' fewer. name_within-alike n (steps_left octets' pointers') message end
    pos' octets' pointers' (omega arith) (omega arith))

-- ---- `name_at` by what stands at the place

module _ (message : List ℕ) (end pos octets pointers : ℕ) where
  step_by : (answer : Result NameRead Fault)
      → name_step (name_at message end) message end pos octets pointers ≡ answer
      → name_at message end pos octets pointers ≡ answer
  step_by answer is = name_at-step message end pos octets pointers ∙ is

  pub name_at-end : end ≤ pos → name_at message end pos octets pointers ≡ Err Short
  unfolding name_step
  name_at-end past = step_by _ (grind (arith, nat_tests))

  pub name_at-root : pos < end → get_or message pos 0 ≡ 0
      → name_at message end pos octets pointers ≡ Ok (record { labels = []; next = pos + 1 })
  unfolding name_step
  name_at-root here root = step_by _ (grind (arith, nat_tests))

  pub name_at-short_label : pos < end → 0 < get_or message pos 0 → get_or message pos 0 < 64
      → end < pos + 1 + get_or message pos 0
      → name_at message end pos octets pointers ≡ Err Short
  unfolding name_step
  name_at-short_label here some small past = step_by _ (grind (arith, nat_tests))

  pub name_at-long_label : pos < end → 0 < get_or message pos 0 → get_or message pos 0 < 64
      → pos + 1 + get_or message pos 0 ≤ end → 254 < octets + get_or message pos 0 + 1
      → name_at message end pos octets pointers ≡ Err Form
  unfolding name_step
  name_at-long_label here some small within many = step_by _ (grind (arith, nat_tests))

  pub name_at-label : pos < end → 0 < get_or message pos 0 → get_or message pos 0 < 64
      → pos + 1 + get_or message pos 0 ≤ end → octets + get_or message pos 0 + 1 ≤ 254
      → name_at message end pos octets pointers
      ≡ with_label (slice_range message (pos + 1) (pos + 1 + get_or message pos 0))
      (name_at message end (pos + 1 + get_or message pos 0) (octets + get_or message pos 0 + 1)
      pointers)
  unfolding name_step
  name_at-label here some small within few = step_by _ (grind (arith, nat_tests))

  pub name_at-reserved : pos < end → 64 ≤ get_or message pos 0 → get_or message pos 0 < 192
      → name_at message end pos octets pointers ≡ Err Form
  unfolding name_step
  name_at-reserved here above below = step_by _ (grind (arith, nat_tests))

  pub name_at-short_pointer : pos < end → 192 ≤ get_or message pos 0 → end ≤ pos + 1
      → name_at message end pos octets pointers ≡ Err Short
  unfolding name_step
  name_at-short_pointer here high past = step_by _ (grind (arith, nat_tests))

  pub name_at-bad_pointer : pos < end → 192 ≤ get_or message pos 0 → pos + 1 < end
      → (pos ≤ (get_or message pos 0 % 64) * 256 + get_or message (pos + 1) 0) ⊎ (255 ≤ pointers)
      → name_at message end pos octets pointers ≡ Err Form
  unfolding name_step
  name_at-bad_pointer here high within bad = step_by _ (grind (arith, nat_tests))

  pub name_at-pointer : pos < end → 192 ≤ get_or message pos 0 → pos + 1 < end
      → (get_or message pos 0 % 64) * 256 + get_or message (pos + 1) 0 < pos → pointers < 255
      → name_at message end pos octets pointers
      ≡ by_pointer (pos + 2)
      (name_at message end ((get_or message pos 0 % 64) * 256 + get_or message (pos + 1) 0) octets
      (pointers + 1))
  unfolding name_step
  name_at-pointer here high within back few = step_by _ (grind (arith, nat_tests))

pub ruleset name_rules = (
  name_at-end,
  name_at-root,
  name_at-short_label,
  name_at-long_label,
  name_at-label,
  name_at-reserved,
  name_at-short_pointer,
  name_at-bad_pointer,
  name_at-pointer,
)

-- ---- the equation of `is_pointed`

-- a step asks only behind the place
pub pointed_step-alike : (f g : ℕ → Bool) (message : List ℕ) (end pos : ℕ)
    → ((pos' : ℕ) → end - pos' < end - pos → f pos' ≡ g pos')
    → pointed_step f message end pos ≡ pointed_step g message end pos
unfolding pointed_step
pointed_step-alike f g message end pos same = grind (arith, nat_tests, same)

-- more steps than are left change nothing
pub pointed_within-alike : (n k : ℕ) (message : List ℕ) (end pos : ℕ) → end - pos ≤ n
    → end - pos ≤ k
    → pointed_within n message end pos ≡ pointed_within k message end pos
unfolding pointed_within
pointed_within-alike zero zero message end pos in_n in_k = refl
pointed_within-alike zero (suc k) message end pos in_n in_k =
    pointed_step-alike _ _ message end pos (λ pos' fewer. absurd (omega arith))
pointed_within-alike (suc n) zero message end pos in_n in_k =
    pointed_step-alike _ _ message end pos (λ pos' fewer. absurd (omega arith))
pointed_within-alike (suc n) (suc k) message end pos in_n in_k =
    pointed_step-alike _ _ message end pos
    (λ pos' fewer. pointed_within-alike n k message end pos' (omega arith) (omega arith))

-- `is_pointed` is `pointed_step` of itself
pub is_pointed-step : (message : List ℕ) (end pos : ℕ)
    → is_pointed message end pos ≡ pointed_step (is_pointed message end) message end pos
unfolding is_pointed pointed_within
is_pointed-step message end pos =
    let n = end - pos in
    pointed_within-alike n (suc n) message end pos (omega arith) (omega arith)
    ∙ pointed_step-alike _ _ message end pos
    (λ pos' fewer. pointed_within-alike n (end - pos') message end pos' (omega arith) (omega arith))

-- ---- `is_pointed` by what stands at the place

module _ (message : List ℕ) (end pos : ℕ) where
  pointed_by : (answer : Bool) → pointed_step (is_pointed message end) message end pos ≡ answer
      → is_pointed message end pos ≡ answer
  pointed_by answer is = is_pointed-step message end pos ∙ is

  pub is_pointed-end : end ≤ pos → is_pointed message end pos ≡ false
  unfolding pointed_step
  is_pointed-end past = pointed_by _ (grind (arith, nat_tests))

  pub is_pointed-root : pos < end → get_or message pos 0 ≡ 0 → is_pointed message end pos ≡ false
  unfolding pointed_step
  is_pointed-root here root = pointed_by _ (grind (arith, nat_tests))

  pub is_pointed-label : pos < end → 0 < get_or message pos 0 → get_or message pos 0 < 64
      → is_pointed message end pos ≡ is_pointed message end (pos + 1 + get_or message pos 0)
  unfolding pointed_step
  is_pointed-label here some small = pointed_by _ (grind (arith, nat_tests))

  -- a pointer, or an octet that is reserved
  pub is_pointed-pointer : pos < end → 64 ≤ get_or message pos 0 → is_pointed message end pos ≡ true
  unfolding pointed_step
  is_pointed-pointer here high = pointed_by _ (grind (arith, nat_tests))

pub ruleset pointed_rules = (is_pointed-end, is_pointed-root, is_pointed-label, is_pointed-pointer)
