-- The next of the pairs at a place.
use Rattle.std.proofs.Common.{◌≡◌, ◌≢◌, ℕ, ◌+◌, ◌≤◌, List, [], ◌∷◌, Option, Some, Result, Ok, Err, refl, sym, ◌∙◌, subst, arith}
use Rattle.std.specs.Prelude.{slice_range}
use Rattle.std.proofs.lemmas.Bool.Decides.{nat_tests}
use Rattle.name_spec.specs.Octets.{Fault, number_at}
use Rattle.svcb_spec.specs.Params.{Pairs, pairs_step, pairs_at}
use Rattle.svcb_spec.proofs.PairLaws.{pairs_at-step}
use Rattle.svcb_c.specs.Svcb.{IsNext}

-- at the end there are no pairs
pub next_none : (message : List ℕ) (end pos : ℕ) (last : Option ℕ) (pairs : Pairs)
    → pairs_at message end pos last ≡ Ok pairs → pos ≡ end → pairs ≡ []
unfolding pairs_step
next_none message end pos last pairs read at_end =
    let step = sym (pairs_at-step message end pos last) ∙ read in
    grind (arith, nat_tests, step)

pub ruleset next_rules = (next_none)

module _ (message : List ℕ) (end pos : ℕ) where
  abbrev pub behind : ℕ
  behind = pos + 4 + number_at message (pos + 2)

  pub record IsFirst (pairs : Pairs) : Type 0 where
    pub within : behind ≤ end
    pub rest : Pairs
    pub pairs_are : pairs ≡ (number_at message pos, slice_range message (pos + 4) behind) ∷ rest
    pub others : pairs_at message end behind (Some (number_at message pos)) ≡ Ok rest

  first_of : (last : Option ℕ) (pairs : Pairs) (rest : Result Pairs Fault) → pos ≢ end → pos ≤ end
      → pairs_at message end behind (Some (number_at message pos)) ≡ rest
      → pairs_step (pairs_at message end) message end pos last ≡ Ok pairs → IsFirst pairs
  unfolding pairs_step
  first_of last pairs (Err fault) apart here others read = absurd (grind (arith, nat_tests))
  first_of last pairs (Ok rest) apart here others read = record {
    within = grind (arith, nat_tests);
    rest = rest;
    pairs_are = grind (arith, nat_tests);
    others = others;
  }

  -- before the end there is a first pair
  pub first : (last : Option ℕ) (pairs : Pairs) → pos ≢ end → pos ≤ end
      → pairs_at message end pos last ≡ Ok pairs → IsFirst pairs
  first last pairs apart here read =
      first_of last pairs _ apart here refl (sym (pairs_at-step message end pos last) ∙ read)

  pub next_within : (last : Option ℕ) (pairs : Pairs) → pos ≢ end → pos ≤ end
      → pairs_at message end pos last ≡ Ok pairs
      → pos + 4 + number_at message (pos + 2) ≤ end
  next_within last pairs apart here read = (first last pairs apart here read).within

  pub next_pair : (last : Option ℕ) (pairs : Pairs) → pos ≢ end → pos ≤ end
      → pairs_at message end pos last ≡ Ok pairs
      → (key len : ℕ) → key ≡ number_at message pos → len ≡ number_at message (pos + 2)
      → IsNext pairs message end 0 (record { key = key; len = len; start = pos + 4 })
  next_pair last pairs apart here read key len is_key is_len =
      let found = first last pairs apart here read in
      subst (λ ps. IsNext ps message end 0 (record { key = key; len = len; start = pos + 4 }))
      (sym found.pairs_are) (rw (is_key, is_len) (refl, refl, found.others))
