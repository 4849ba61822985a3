-- The places of endpoints are those of the usable records.
use Rattle.std.proofs.Common.{◌≡◌, ℕ, zero, suc, ◌+◌, ◌<◌, ◌≤◌, true, false, cond, ◌||◌, List, [], ◌∷◌, Option, Some, refl, sym, ap, ◌∙◌, subst, arith}
use Rattle.std.specs.Prelude.{◌==◌, IsSomeAnd, slice_get}
use Rattle.std.proofs.lemmas.Bool.Decides.{nat_tests}
use Rattle.std.specs.List.{AllByRecursion}
use Rattle.svcb_spec.specs.Records.{Record}
use Rattle.svcb_choose.specs.Usability.{is_usable}
use Rattle.svcb_choose.specs.Choosing.{endpoint_of, endpoints_from}
use Rattle.svcb_choose.specs.Choices.{is_usable_at, has_place, Ascend, HasParts, AreUsable}
use Rattle.svcb_choose.specs.declared.choice.Endpoint.{Endpoint}

same_number : (n : ℕ) → (n == n) ≡ true
same_number n = grind (arith, nat_tests)

other_number : (a b : ℕ) → a < b → (a == b) ≡ false
other_number a b lt = grind (arith, nat_tests)

above_number : (a b : ℕ) → b < a → (a == b) ≡ false
above_number a b lt = grind (arith, nat_tests)

lower : (least start : ℕ) (endpoints : List Endpoint) → least ≤ start → Ascend start endpoints
    → Ascend least endpoints
lower least start [] le up = tt
lower least start (endpoint ∷ others) le up = (omega (arith, up.0), up.1)

module _ (owner : List (List ℕ)) (understood : List ℕ) (defaults : List (List ℕ)) where
  place_is : (place : ℕ) (found : Record) → (endpoint_of owner defaults place found).index ≡ place
  unfolding endpoint_of
  place_is place found = refl

  none_before : (start : ℕ) (records : List Record) (place : ℕ) → place < start
      → has_place (endpoints_from owner understood defaults start records) place ≡ false
  none_before start [] place lt = refl
  none_before start (found ∷ others) place lt =
      let behind = endpoints_from owner understood defaults (start + 1) others in
      let none = none_before (start + 1) others place (omega arith) in
      elim (is_usable understood found.pairs) as
      (λ b. has_place (cond b (endpoint_of owner defaults start found ∷ behind) behind) place
      ≡ false) [
        | true ↦ ap (λ n. n == place || has_place behind place) (place_is start found)
            ∙ ap (λ b. b || has_place behind place) (above_number start place lt) ∙ none
        | false ↦ none
      ]

  places_from : (start : ℕ) (records : List Record) (place : ℕ)
      → has_place (endpoints_from owner understood defaults start records) (start + place)
      ≡ is_usable_at understood records place
  places_from start [] place = refl
  places_from start (found ∷ others) zero =
      let behind = endpoints_from owner understood defaults (start + 1) others in
      let at : start + 0 ≡ start = omega arith in
      elim (is_usable understood found.pairs) as
      (λ b. has_place (cond b (endpoint_of owner defaults start found ∷ behind) behind) (start + 0)
      ≡ b) [
        | true ↦ ap (λ n. n == (start + 0) || has_place behind (start + 0)) (place_is start found)
            ∙ ap (λ n. start == n || has_place behind n) at
            ∙ ap (λ b. b || has_place behind start) (same_number start)
        | false ↦ none_before (start + 1) others (start + 0) (omega arith)
      ]
  places_from start (found ∷ others) (suc place) =
      let behind = endpoints_from owner understood defaults (start + 1) others in
      let at : start + suc place ≡ start + 1 + place = omega arith in
      let later = ap (λ n. has_place behind n) at ∙ places_from (start + 1) others place in
      elim (is_usable understood found.pairs) as
      (λ b. has_place (cond b (endpoint_of owner defaults start found ∷ behind) behind)
      (start + suc place) ≡ is_usable_at understood others place) [
        | true ↦
            ap (λ n. n == (start + suc place) || has_place behind (start + suc place))
            (place_is start found)
            ∙ ap (λ b. b || has_place behind (start + suc place))
            (other_number start (start + suc place) (omega arith))
            ∙ later
        | false ↦ later
      ]

  in_order_from : (start : ℕ) (records : List Record)
      → Ascend start (endpoints_from owner understood defaults start records)
  in_order_from start [] = tt
  in_order_from start (found ∷ others) =
      let behind = endpoints_from owner understood defaults (start + 1) others in
      let up = in_order_from (start + 1) others in
      let is = place_is start found in
      elim (is_usable understood found.pairs) as
      (λ b. Ascend start (cond b (endpoint_of owner defaults start found ∷ behind) behind)) [
        | true ↦ (omega (arith, is), subst (λ n. Ascend (n + 1) behind) (sym is) up)
        | false ↦ lower start (start + 1) behind (omega arith) up
      ]

  has_parts : (place : ℕ) (found : Record)
      → HasParts owner found (endpoint_of owner defaults place found)
  unfolding endpoint_of
  has_parts place found = record { target = refl; port = refl }

  -- `at` gives the record at each place from `start` on
  parts_from : (at : ℕ → Option Record) (start : ℕ) (records : List Record)
      → ((k : ℕ) → at (start + k) ≡ slice_get records k)
      → AllByRecursion (λ endpoint. IsSomeAnd (at endpoint.index) (λ found. HasParts owner found endpoint))
      (endpoints_from owner understood defaults start records)
  parts_from at start [] same = tt
  parts_from at start (found ∷ others) same =
      let behind = endpoints_from owner understood defaults (start + 1) others in
      let endpoint = endpoint_of owner defaults start found in
      let next : (k : ℕ) → start + 1 + k ≡ start + suc k = λ k. omega arith in
      let rest = parts_from at (start + 1) others (λ k. ap at (next k) ∙ same (suc k)) in
      let first : start ≡ start + 0 = omega arith in
      let is : at endpoint.index ≡ Some found =
      ap at (place_is start found) ∙ ap at first ∙ same 0 in
      elim (is_usable understood found.pairs) as
      (λ b. AllByRecursion (λ e. IsSomeAnd (at e.index) (λ f. HasParts owner f e))
      (cond b (endpoint ∷ behind) behind)) [
        | true ↦ (
          subst (λ o. IsSomeAnd o (λ f. HasParts owner f endpoint)) (sym is)
              (has_parts start found),
          rest,
        )
        | false ↦ rest
      ]

  pub are_usable : (records : List Record) (endpoints : List Endpoint)
      → endpoints ≡ endpoints_from owner understood defaults 0 records
      → AreUsable owner understood records endpoints
  are_usable records endpoints is =
      let zero_more : (k : ℕ) → 0 + k ≡ k = λ k. omega arith in
      subst (AreUsable owner understood records) (sym is) (record {
        places = λ place. ap (has_place (endpoints_from owner understood defaults 0 records))
            (sym (zero_more place)) ∙ places_from 0 records place;
        in_order = in_order_from 0 records;
        parts = parts_from (slice_get records) 0 records (λ k. ap (slice_get records) (zero_more k));
      })
