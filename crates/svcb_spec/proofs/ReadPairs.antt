-- What is known of pairs that were read.
use Rattle.std.proofs.Common.{◌≡◌, ◌≢◌, ℕ, zero, suc, ◌+◌, ◌-◌, ◌<◌, ◌≤◌, true, List, [], ◌∷◌, length, Option, None, Some, Result, Ok, Err, refl, sym, ◌∙◌, drop, arith, length-append, length-take, length-drop, inl, inr}
use Rattle.std.specs.Prelude.{slice_index, slice_range}
use Rattle.std.proofs.lemmas.Bool.{cases_eq}
use Rattle.std.proofs.lemmas.Bool.Decides.{nat_tests}
use Rattle.name_spec.specs.Octets.{Fault, number_at}
use Rattle.svcb_spec.specs.Params.{Pairs, is_above, pair_wire, pairs_step, pairs_at, Ascends, pairs_wire}
use Rattle.svcb_spec.proofs.PairLaws.{pairs_at-step}
use Rattle.svcb_spec.proofs.WireLaws.{length-pair_wire}

-- the least key that is above the last one
abbrev pub least_above : Option ℕ → ℕ
least_above None = 0
least_above (Some last) = last + 1

least_above-is_above : (last : Option ℕ) (key : ℕ) → is_above last key ≡ true
    → least_above last ≤ key
least_above-is_above None key above = omega arith
least_above-is_above (Some last) key above = grind (arith, nat_tests)

-- a value that lies in the message has as many octets as its length says
pub length-slice_range : (xs : List ℕ) (a n : ℕ) → a + n ≤ length xs
    → length (slice_range xs a (a + n)) ≡ n
length-slice_range xs a n within =
    omega (arith, length-take (a + n - a) (drop a xs), length-drop a xs)

-- what pairs that were read are: they ascend, and their octets are those from the place to the end
pub record AreRead (least pos end : ℕ) (pairs : Pairs) : Type 0 where
  pub ascend : Ascends least pairs
  pub len : length (pairs_wire pairs) + pos ≡ end

module _ (message : List ℕ) (end : ℕ) (small : (i : ℕ) → slice_index message i < 256)
    (in_message : end ≤ length message) where
  small_number : (pos : ℕ) → number_at message pos < 65536
  small_number pos = let high = small pos in let low = small (pos + 1) in omega arith

  module _ (pos : ℕ) (last : Option ℕ) where
    abbrev key : ℕ
    key = number_at message pos

    abbrev len : ℕ
    len = number_at message (pos + 2)

    abbrev value : List ℕ
    value = slice_range message (pos + 4) (pos + 4 + len)

    -- a pair, and those behind it
    read_first : (rest : Result Pairs Fault) (pairs : Pairs) → pos ≢ end → pos ≤ end
        → pairs_at message end (pos + 4 + len) (Some key) ≡ rest
        → ((pairs' : Pairs) → pos + 4 + len ≤ end → rest ≡ Ok pairs'
        → AreRead (key + 1) (pos + 4 + len) end pairs')
        → pairs_step (pairs_at message end) message end pos last ≡ Ok pairs
        → AreRead (least_above last) pos end pairs
    unfolding pairs_step
    read_first (Err fault) pairs apart here behind later read = absurd (grind (arith, nat_tests))
    read_first (Ok pairs') pairs apart here behind later read =
        let above : is_above last key ≡ true = grind (arith, nat_tests) in
        let within : pos + 4 + len ≤ end = grind (arith, nat_tests) in
        let is : pairs ≡ (key, value) ∷ pairs' = grind (arith, nat_tests) in
        let rest = later pairs' within refl in
        let long : length value ≡ len = length-slice_range message (pos + 4) len (omega arith) in
        let few : length value < 65536 = (let n = small_number (pos + 2) in omega arith) in
        rw is
        (record {
          ascend = (least_above-is_above last key above, small_number pos, few, rest.ascend);
          len = omega (
            arith,
            length-pair_wire key value,
            length-append
                (pair_wire key (Some value)) (pairs_wire pairs'),
            rest.len,
            long,
          );
        })

    read_none : (pairs : Pairs) → pos ≡ end
        → pairs_step (pairs_at message end) message end pos last ≡ Ok pairs
        → AreRead (least_above last) pos end pairs
    unfolding pairs_step
    read_none pairs at_end read =
        let is : pairs ≡ [] = grind (arith, nat_tests) in
        rw is (record { ascend = tt; len = omega arith })

  pairs_read : (steps pos : ℕ) (last : Option ℕ) (pairs : Pairs) → end - pos ≤ steps → pos ≤ end
      → pairs_at message end pos last ≡ Ok pairs
      → AreRead (least_above last) pos end pairs
  pairs_read zero pos last pairs few here read =
      read_none pos last pairs (omega arith) (sym (pairs_at-step message end pos last) ∙ read)
  pairs_read (suc steps) pos last pairs few here read =
      elim (cases_eq pos end) [
        | inl at_end ↦ read_none pos last pairs at_end
            (sym (pairs_at-step message end pos last) ∙ read)
        | inr apart ↦ read_first pos last _ pairs apart here refl
            (λ pairs' within read'. pairs_read steps (pos + 4 + number_at message (pos + 2))
            (Some (number_at message pos)) pairs' (omega arith) within read')
            (sym (pairs_at-step message end pos last) ∙ read)
      ]

  -- pairs that were read are a map, and its octets are as many as were read
  pub pairs_at-read : (pos : ℕ) (last : Option ℕ) (pairs : Pairs) → pos ≤ end
      → pairs_at message end pos last ≡ Ok pairs → AreRead (least_above last) pos end pairs
  pairs_at-read pos last pairs here read =
      pairs_read (end - pos) pos last pairs (omega arith) here read
