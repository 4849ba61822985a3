-- Pairs that are read back from their octets, and the octets of pairs that were read. Offered to
-- the crates above: the octets at a place, `pairs_at-back` and `wire-pairs_at`.
use Rattle.std.proofs.Common.{◌≡◌, ◌≢◌, ℕ, zero, suc, ◌+◌, ◌-◌, ◌*◌, ◌/◌, ◌%◌, ◌<◌, ◌≤◌, true, List, [], ◌∷◌, ◌++◌, length, take, drop, Option, None, Some, Result, Ok, Err, refl, sym, ap, ◌∙◌, arith, length-append, append_assoc, get_or, inl, inr}
use Rattle.std.proofs.Math.Seq.{drop-append_seam, take-append_seam, drop-length}
use Rattle.std.proofs.lemmas.List.{get_or-drop, drop-drop, append-nil}
use Rattle.std.proofs.lemmas.List.Folds.{drop_split}
use Rattle.std.proofs.lemmas.Bool.{cases_eq}
use Rattle.std.proofs.lemmas.Bool.Decides.{nat_tests}
use Rattle.std.specs.Prelude.{slice_index, slice_range}
use Rattle.name_spec.specs.Octets.{Fault, be2, number_at}
use Rattle.svcb_spec.specs.Params.{Pairs, with_pair, is_above, pairs_step, pairs_at, pairs_wire, wire, Ascends, IsMap}
use Rattle.svcb_spec.proofs.PairLaws.{pairs_at-step, pairs_at-end, pairs_at-pair}
use Rattle.svcb_spec.proofs.ReadPairs.{least_above, pairs_at-read, length-slice_range}
use Rattle.svcb_spec.proofs.WireLaws.{wire-pairs, length-pair_wire}

-- ---- octets at a place

-- the octets from a place on, behind a prefix of them
pub drop-behind : (message front rest : List ℕ) (pos : ℕ) → drop pos message ≡ front ++ rest
    → drop (pos + length front) message ≡ rest
drop-behind message front rest pos is =
    sym (drop-drop (length front) pos message) ∙ ap (drop (length front)) is
    ∙ drop-append_seam front rest

-- the front of the octets from a place on
pub slice_range-front : (message front rest : List ℕ) (pos to : ℕ) → to ≡ pos + length front
    → drop pos message ≡ front ++ rest → slice_range message pos to ≡ front
slice_range-front message front rest pos to at is =
    let as_long : to - pos ≡ length front = omega arith in
    ap (λ n. take n (drop pos message)) as_long ∙ ap (take (length front)) is
    ∙ take-append_seam front rest

pub slice_index-first : (message rest : List ℕ) (octet pos : ℕ) → drop pos message ≡ octet ∷ rest
    → slice_index message pos ≡ octet
slice_index-first message rest octet pos is =
    let here : pos + 0 ≡ pos = omega arith in
    ap (λ i. get_or message i 0) (sym here) ∙ sym (get_or-drop pos message 0 0)
    ∙ ap (λ xs. get_or xs 0 0) is

pub number_at-first : (message rest : List ℕ) (a b pos : ℕ) → drop pos message ≡ a ∷ b ∷ rest
    → number_at message pos ≡ a * 256 + b
number_at-first message rest a b pos is =
    let high = slice_index-first message (b ∷ rest) a pos is in
    let low = slice_index-first message rest b (pos + 1)
    (drop-behind message (a ∷ []) (b ∷ rest) pos is) in
    ap (λ n. n * 256 + slice_index message (pos + 1)) high ∙ ap (λ n. a * 256 + n) low

pub number_at-be2 : (message rest : List ℕ) (n pos : ℕ) → drop pos message ≡ be2 n ++ rest
    → number_at message pos ≡ n
number_at-be2 message rest n pos is =
    number_at-first message rest (n / 256) (n % 256) pos is ∙ omega arith

-- ---- pairs read back

above-least : (last : Option ℕ) (key : ℕ) → least_above last ≤ key → is_above last key ≡ true
above-least None key least = refl
above-least (Some last) key least = grind (arith, nat_tests)

-- the pairs whose octets stand at a place, up to the end of the data
pub pairs_at-back : (message behind : List ℕ) (pairs : Pairs) (end pos : ℕ) (last : Option ℕ)
    → drop pos message ≡ pairs_wire pairs ++ behind
    → end ≡ pos + length (pairs_wire pairs) → Ascends (least_above last) pairs
    → pairs_at message end pos last ≡ Ok pairs
pairs_at-back message behind [] end pos last is at up =
    pairs_at-end message end pos last (omega arith)
pairs_at-back message behind (pair ∷ pairs) end pos last is at up =
    let key = pair.0 in
    let value = pair.1 in
    let front : List ℕ = be2 key ++ be2 (length value) in
    let rest : List ℕ = pairs_wire pairs ++ behind in
    let spread : (be2 key ++ be2 (length value) ++ value) ++ pairs_wire pairs
    ≡ pairs_wire (pair ∷ pairs) = refl in
    let all : drop pos message ≡ front ++ (value ++ rest) =
    is ∙ append_assoc (be2 key ++ be2 (length value) ++ value) (pairs_wire pairs) behind
    ∙ append_assoc front value rest in
    let is_key : number_at message pos ≡ key =
    number_at-be2 message (be2 (length value) ++ value ++ rest) key pos all in
    let at_len : drop (pos + 2) message ≡ be2 (length value) ++ (value ++ rest) =
    drop-behind message (be2 key) (be2 (length value) ++ (value ++ rest)) pos all in
    let is_len : number_at message (pos + 2) ≡ length value =
    number_at-be2 message (value ++ rest) (length value) (pos + 2) at_len in
    let at_value : drop (pos + 4) message ≡ value ++ rest =
    drop-behind message front (value ++ rest) pos all in
    let is_value : slice_range message (pos + 4) (pos + 4 + length value) ≡ value =
    slice_range-front message value rest (pos + 4) (pos + 4 + length value) refl at_value in
    let at_rest : drop (pos + 4 + length value) message ≡ rest =
    drop-behind message value rest (pos + 4) at_value in
    let long : length (pairs_wire (pair ∷ pairs)) ≡ 4 + length value + length (pairs_wire pairs) =
    omega (
      arith,
      length-append (be2 key ++ be2 (length value) ++ value)
          (pairs_wire pairs),
      length-pair_wire key value,
    ) in
    let others : pairs_at message end (pos + 4 + length value) (Some key) ≡ Ok pairs =
    pairs_at-back message behind pairs end (pos + 4 + length value) (Some key) at_rest
    (omega arith) up.3 in
    let above : is_above last (number_at message pos) ≡ true =
    ap (is_above last) is_key ∙ above-least last key up.0 in
    pairs_at-pair message end pos last above (omega arith)
    ∙ ap (λ n. with_pair (number_at message pos, slice_range message (pos + 4) (pos + 4 + n))
    (pairs_at message end (pos + 4 + n) (Some (number_at message pos)))) is_len
    ∙ ap (λ k. with_pair (k, slice_range message (pos + 4) (pos + 4 + length value))
    (pairs_at message end (pos + 4 + length value) (Some k))) is_key
    ∙ ap (λ v. with_pair (key, v) (pairs_at message end (pos + 4 + length value) (Some key)))
    is_value
    ∙ ap (with_pair (key, value)) others

-- a map is read back from its octets
pub pairs_at-wire : (pairs : Pairs) → IsMap pairs
    → pairs_at (wire pairs) (length (wire pairs)) 0 None ≡ Ok pairs
pairs_at-wire pairs is_map =
    let in_order : wire pairs ≡ pairs_wire pairs = wire-pairs pairs is_map in
    let as_long : length (wire pairs) ≡ length (pairs_wire pairs) = ap length in_order in
    pairs_at-back (wire pairs) [] pairs (length (wire pairs)) 0 None
    (in_order ∙ sym (append-nil (pairs_wire pairs))) (omega arith) is_map

-- ---- octets of pairs that were read

pub drop-first : (pos : ℕ) (message : List ℕ) → pos < length message
    → drop pos message ≡ slice_index message pos ∷ drop (pos + 1) message
drop-first zero [] within = absurd (omega arith)
drop-first zero (octet ∷ message) within = refl
drop-first (suc pos) [] within = absurd (omega arith)
drop-first (suc pos) (octet ∷ message) within =
    let on : suc pos + 1 ≡ suc (pos + 1) = omega arith in
    drop-first pos message (omega arith)
    ∙ ap (λ n. slice_index message pos ∷ drop n (octet ∷ message)) (sym on)

split_number : (a b : ℕ) (rest : List ℕ) → a < 256 → b < 256
    → be2 (a * 256 + b) ++ rest ≡ a ∷ b ∷ rest
split_number a b rest high low =
    let is_high : (a * 256 + b) / 256 ≡ a = omega arith in
    let is_low : (a * 256 + b) % 256 ≡ b = omega arith in
    ap (λ n. n ∷ (a * 256 + b) % 256 ∷ rest) is_high ∙ ap (λ n. a ∷ n ∷ rest) is_low

module _ (message : List ℕ) (small : (i : ℕ) → slice_index message i < 256) where
  -- a number's two octets, in front of those behind it
  pub be2-number_at : (pos : ℕ) → pos + 2 ≤ length message
      → be2 (number_at message pos) ++ drop (pos + 2) message ≡ drop pos message
  be2-number_at pos within =
      let on : pos + 1 + 1 ≡ pos + 2 = omega arith in
      split_number (slice_index message pos) (slice_index message (pos + 1))
      (drop (pos + 2) message) (small pos) (small (pos + 1))
      ∙ ap (λ n. slice_index message pos ∷ slice_index message (pos + 1) ∷ drop n message) (sym on)
      ∙ ap (λ rest. slice_index message pos ∷ rest)
      (sym (drop-first (pos + 1) message (omega arith)))
      ∙ sym (drop-first pos message (omega arith))

  module _ (end : ℕ) (in_message : end ≤ length message) where
    -- what the pairs are, and all octets from the place on
    abbrev IsRead : ℕ → Result Pairs Fault → Type 0
    IsRead pos read = (pairs : Pairs) → read ≡ Ok pairs
        → pairs_wire pairs ++ drop end message ≡ drop pos message

    read_pair : (pos : ℕ) (last : Option ℕ) (rest : Result Pairs Fault) (pairs : Pairs) → pos ≢ end
        → pos ≤ end
        → pairs_at message end (pos + 4 + number_at message (pos + 2))
        (Some (number_at message pos)) ≡ rest
        → (pos + 4 + number_at message (pos + 2) ≤ end
        → IsRead (pos + 4 + number_at message (pos + 2)) rest)
        → pairs_step (pairs_at message end) message end pos last ≡ Ok pairs
        → pairs_wire pairs ++ drop end message ≡ drop pos message
    unfolding pairs_step
    read_pair pos last (Err fault) pairs apart here behind later read =
        absurd (grind (arith, nat_tests))
    read_pair pos last (Ok pairs') pairs apart here behind later read =
        let key = number_at message pos in
        let len = number_at message (pos + 2) in
        let value = slice_range message (pos + 4) (pos + 4 + len) in
        let within : pos + 4 + len ≤ end = grind (arith, nat_tests) in
        let is : pairs ≡ (key, value) ∷ pairs' = grind (arith, nat_tests) in
        let long : length value ≡ len = length-slice_range message (pos + 4) len (omega arith) in
        let rest : pairs_wire pairs' ++ drop end message ≡ drop (pos + 4 + len) message =
        later within pairs' refl in
        ap (λ ps. pairs_wire ps ++ drop end message) is
        ∙ append_assoc (be2 key ++ be2 (length value) ++ value) (pairs_wire pairs')
        (drop end message)
        ∙ append_assoc (be2 key ++ be2 (length value)) value (pairs_wire pairs' ++ drop end message)
        ∙ ap (λ octets. (be2 key ++ be2 (length value)) ++ (value ++ octets)) rest
        ∙ ap (λ octets. (be2 key ++ be2 (length value)) ++ octets)
        (sym (drop_split message (pos + 4) (pos + 4 + len) (omega arith)))
        ∙ ap (λ n. be2 key ++ (be2 n ++ drop (pos + 4) message)) long
        ∙ ap (λ octets. be2 key ++ octets)
        (be2-number_at' (pos + 2) (pos + 4) (omega arith) (omega arith))
        ∙ be2-number_at pos (omega arith)
      where
        be2-number_at' : (at to : ℕ) → to ≡ at + 2 → at + 2 ≤ length message
            → be2 (number_at message at) ++ drop to message ≡ drop at message
        be2-number_at' at to is within =
            ap (λ n. be2 (number_at message at) ++ drop n message) is ∙ be2-number_at at within

    read_end : (pos : ℕ) (last : Option ℕ) (pairs : Pairs) → pos ≡ end
        → pairs_step (pairs_at message end) message end pos last ≡ Ok pairs
        → pairs_wire pairs ++ drop end message ≡ drop pos message
    unfolding pairs_step
    read_end pos last pairs at_end read =
        let none : pairs ≡ [] = grind (arith, nat_tests) in
        ap (λ ps. pairs_wire ps ++ drop end message) none ∙ ap (λ n. drop n message) (sym at_end)

    pairs_are : (steps pos : ℕ) (last : Option ℕ) → end - pos ≤ steps → pos ≤ end
        → IsRead pos (pairs_at message end pos last)
    pairs_are zero pos last few here pairs read =
        read_end pos last pairs (omega arith) (sym (pairs_at-step message end pos last) ∙ read)
    pairs_are (suc steps) pos last few here pairs read = elim (cases_eq pos end) [
      | inl at_end ↦ read_end pos last pairs at_end
          (sym (pairs_at-step message end pos last) ∙ read)
      | inr apart ↦ read_pair pos last _ pairs apart here refl
          (λ within. pairs_are steps (pos + 4 + number_at message (pos + 2))
          (Some (number_at message pos)) (omega arith) within)
          (sym (pairs_at-step message end pos last) ∙ read)
    ]

    -- the octets of the pairs that were read are those from the place to the end of the data
    pub pairs_wire-pairs_at : (pos : ℕ) (last : Option ℕ) (pairs : Pairs) → pos ≤ end
        → pairs_at message end pos last ≡ Ok pairs
        → pairs_wire pairs ++ drop end message ≡ drop pos message
    pairs_wire-pairs_at pos last pairs here read =
        pairs_are (end - pos) pos last (omega arith) here pairs read

-- octets that are a map's are its wire form
pub wire-pairs_at : (octets : List ℕ) (pairs : Pairs) → ((i : ℕ) → slice_index octets i < 256)
    → pairs_at octets (length octets) 0 None ≡ Ok pairs
    → IsMap pairs × (wire pairs ≡ octets)
wire-pairs_at octets pairs small read =
    let known = pairs_at-read octets (length octets) small (omega arith) 0 None pairs
    (omega arith) read in (
      known.ascend,
      wire-pairs pairs known.ascend
          ∙ sym (append-nil (pairs_wire pairs))
          ∙ ap (λ rest. pairs_wire pairs ++ rest) (sym (drop-length octets))
          ∙ pairs_wire-pairs_at octets small (length octets) (omega arith) 0 None pairs
          (omega arith) read,
    )
