-- A part of a message that is read by itself. Offered to the crates above: `pairs_at-part`.
use Rattle.std.proofs.Common.{◌≡◌, ℕ, zero, suc, ◌+◌, ◌-◌, ◌<◌, ◌≤◌, List, Option, Some, Result, refl, sym, ◌∙◌, ap, take, drop, arith}
use Rattle.std.specs.Prelude.{slice_index, slice_range}
use Rattle.std.proofs.lemmas.List.{get_or-drop, get_or-take, drop-drop, take-take, drop-take}
use Rattle.std.proofs.lemmas.Bool.Decides.{nat_tests}
use Rattle.name_spec.specs.Octets.{Fault, number_at}
use Rattle.svcb_spec.specs.Params.{Pairs, pairs_step, pairs_within, pairs_at}

module _ (message : List ℕ) (start len : ℕ) where
  abbrev part : List ℕ
  part = slice_range message start (start + len)

  -- an octet of the part
  pub slice_index-part : (i : ℕ) → i < len → slice_index part i ≡ slice_index message (start + i)
  slice_index-part i within =
      get_or-take (start + len - start) (drop start message) i 0 (omega arith)
      ∙ get_or-drop start message i 0

  -- a number in the part
  pub number_at-part : (pos pos' : ℕ) → pos' ≡ start + pos → pos + 2 ≤ len
      → number_at part pos ≡ number_at message pos'
  number_at-part pos pos' at within =
      let high = slice_index-part pos (omega arith) in
      let low = slice_index-part (pos + 1) (omega arith) in
      let on : start + (pos + 1) ≡ pos' + 1 = omega arith in
      cc

  -- a part of the part
  pub slice_range-part : (a b a' b' : ℕ) → a' ≡ start + a → b' ≡ start + b → a ≤ b → b ≤ len
      → slice_range part a b ≡ slice_range message a' b'
  slice_range-part a b a' b' at_a at_b order within =
      let whole : start + len - start ≡ a + (len - a) = omega arith in
      let few : b - a ≤ len - a = omega arith in
      let as_long : b' - a' ≡ b - a = omega arith in
      ap (λ n. take (b - a) (drop a (take n (drop start message)))) whole
      ∙ ap (take (b - a)) (drop-take a (len - a) (drop start message))
      ∙ take-take (b - a) (len - a) (drop a (drop start message)) few
      ∙ ap (take (b - a)) (drop-drop a start message)
      ∙ rw (← as_long, at_a) refl

-- a step in a part is the step in the message
pairs_step-part : (f g : ℕ → Option ℕ → Result Pairs Fault) (message : List ℕ) (start len pos : ℕ)
    (last : Option ℕ) → pos ≤ len
    → ((pos' : ℕ) (last' : Option ℕ) → pos < pos' → pos' ≤ len
    → f pos' last' ≡ g (start + pos') last')
    → pairs_step f (slice_range message start (start + len)) len pos last
    ≡ pairs_step g message (start + len) (start + pos) last
unfolding pairs_step
pairs_step-part f g message start len pos last here alike =
    let key = number_at message (start + pos) in
    let n = number_at message (start + pos + 2) in
    grind (
      arith,
      nat_tests,
      number_at-part message start len pos
          (start + pos) refl,
      number_at-part message start len (pos + 2)
          (start + pos + 2),
      slice_range-part message start len (pos + 4) (pos + 4 + n)
          (start + pos + 4) (start + pos + 4 + n),
      alike (pos + 4 + n) (Some key),
    )

pairs_within-part : (n : ℕ) (message : List ℕ) (start len pos : ℕ) (last : Option ℕ) → pos ≤ len
    → pairs_within n (slice_range message start (start + len)) len pos last
    ≡ pairs_within n message (start + len) (start + pos) last
unfolding pairs_within
pairs_within-part zero message start len pos last here =
    pairs_step-part _ _ message start len pos last here (λ pos' last' behind within. refl)
pairs_within-part (suc n) message start len pos last here =
    pairs_step-part _ _ message start len pos last here
    (λ pos' last' behind within. pairs_within-part n message start len pos' last' within)

-- a part of a message, read by itself, has the same pairs
pub pairs_at-part : (message : List ℕ) (start len pos : ℕ) (last : Option ℕ) → pos ≤ len
    → pairs_at (slice_range message start (start + len)) len pos last
    ≡ pairs_at message (start + len) (start + pos) last
unfolding pairs_at
pairs_at-part message start len pos last here =
    let steps : start + len - (start + pos) ≡ len - pos = omega arith in
    pairs_within-part (len - pos) message start len pos last here
    ∙ ap (λ n. pairs_within n message (start + len) (start + pos) last) (sym steps)
