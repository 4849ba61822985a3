-- Record data whose end was cut off: what the shorter data is read as.
use Rattle.std.proofs.Common.{◌≡◌, ◌≢◌, ℕ, zero, suc, ◌+◌, ◌-◌, ◌<◌, ◌≤◌, ◌⊎◌, inl, inr, true, List, [], ◌∷◌, ◌++◌, length, Option, None, Some, Result, Ok, Err, refl, sym, ap, ◌∙◌, arith, length-append}
use Rattle.std.specs.Prelude.{slice_range}
use Rattle.std.proofs.lemmas.Bool.{cases_lt, cases_eq}
use Rattle.std.proofs.lemmas.Bool.Decides.{nat_tests}
use Rattle.name_spec.specs.Octets.{Fault, Short, Form, number_at}
use Rattle.name_spec.specs.Names.{NameRead, name_at}
use Rattle.name_spec.proofs.NameTruncation.{name_at-cut}
use Rattle.svcb_spec.specs.Params.{Pair, Pairs, value_at, with_pair, is_above, pairs_step, pairs_at, pair_wire, wire_from, wire}
use Rattle.svcb_spec.specs.Records.{Record, read}
use Rattle.svcb_spec.specs.Truncation.{ReadsPrefix}
use Rattle.svcb_spec.proofs.PairLaws.{pairs_at-step, pairs_at-end, pairs_at-pair}
use Rattle.svcb_spec.proofs.RecordLaws.{read_parts}

-- ---- the pairs

-- octets are missing, or what was read is a prefix of the pairs
abbrev CutPairs : Result Pairs Fault → Pairs → Type 0
CutPairs cut whole =
    (cut ≡ Err Short) ⊎ ((pairs rest : Pairs) × (cut ≡ Ok pairs) × (pairs ++ rest ≡ whole))

with_pair-ok : (pair : Pair) (read : Result Pairs Fault) (whole : Pairs)
    → with_pair pair read ≡ Ok whole
    → (behind : Pairs) × (read ≡ Ok behind) × (pair ∷ behind ≡ whole)
with_pair-ok pair (Ok behind) whole is = (behind, refl, cc)
with_pair-ok pair (Err fault) whole is = absurd cc

with_pair-cut : (pair : Pair) (cut : Result Pairs Fault) (whole : Pairs) → CutPairs cut whole
    → CutPairs (with_pair pair cut) (pair ∷ whole)
with_pair-cut pair cut whole (inl short) = inl (ap (with_pair pair) short)
with_pair-cut pair cut whole (inr found) =
    inr (pair ∷ found.0, found.1, ap (with_pair pair) found.2, ap (λ pairs. pair ∷ pairs) found.3)

module _ (message : List ℕ) (end cut : ℕ) (within : cut ≤ end) where
  -- the place behind the pair at a place
  abbrev behind : ℕ → ℕ
  behind pos = pos + 4 + number_at message (pos + 2)

  key_above : (pos : ℕ) (last : Option ℕ) (whole : Pairs) → behind pos ≤ cut
      → pairs_step (pairs_at message end) message end pos last ≡ Ok whole
      → is_above last (number_at message pos) ≡ true
  unfolding pairs_step
  key_above pos last whole here is = grind (arith, nat_tests)

  pair_short : (pos : ℕ) (last : Option ℕ) (whole : Pairs) → pos ≢ cut → cut < behind pos
      → pairs_step (pairs_at message end) message end pos last ≡ Ok whole
      → pairs_step (pairs_at message cut) message cut pos last ≡ Err Short
  unfolding pairs_step
  pair_short pos last whole apart past is = grind (arith, nat_tests)

  -- the data may end before the pair at a place, within it, or behind it
  pairs_by_pair : (pos : ℕ) (last : Option ℕ) (whole : Pairs)
      → (behind pos ≤ cut → (pairs : Pairs)
      → pairs_at message end (behind pos) (Some (number_at message pos)) ≡ Ok pairs
      → CutPairs (pairs_at message cut (behind pos) (Some (number_at message pos))) pairs)
      → pairs_at message end pos last ≡ Ok whole → CutPairs (pairs_at message cut pos last) whole
  pairs_by_pair pos last whole later is = elim (cases_eq pos cut) [
    | inl at_cut ↦ inr ([], whole, pairs_at-end message cut pos last at_cut, refl)
    | inr apart ↦
        let by_step = sym (pairs_at-step message end pos last) ∙ is in
        elim (cases_lt cut (behind pos)) [
          | inl past ↦ inl
              (pairs_at-step message cut pos last ∙ pair_short pos last whole apart past by_step)
          | inr here ↦
              let above = key_above pos last whole here by_step in
              let pair : Pair = (number_at message pos, slice_range message (pos + 4) (behind pos))
              in
              let rest = pairs_at message end (behind pos) (Some (number_at message pos)) in
              let first = with_pair-ok pair rest whole
              (sym (pairs_at-pair message end pos last above (omega arith)) ∙ is) in
              let cut_rest = pairs_at message cut (behind pos) (Some (number_at message pos)) in
              rw (pairs_at-pair message cut pos last above here, ← first.2)
              (with_pair-cut pair cut_rest first.0 (later here first.0 first.1))
        ]
  ]

  pairs_cut : (steps pos : ℕ) (last : Option ℕ) (whole : Pairs) → cut - pos ≤ steps
      → pairs_at message end pos last ≡ Ok whole → CutPairs (pairs_at message cut pos last) whole
  pairs_cut zero pos last whole few is =
      pairs_by_pair pos last whole (λ here pairs read. absurd (omega arith)) is
  pairs_cut (suc steps) pos last whole few is =
      pairs_by_pair pos last whole
      (λ here pairs read. pairs_cut steps (behind pos) (Some (number_at message pos)) pairs
      (omega arith) read) is

  pub pairs_at-cut : (pos : ℕ) (last : Option ℕ) (whole : Pairs)
      → pairs_at message end pos last ≡ Ok whole → CutPairs (pairs_at message cut pos last) whole
  pairs_at-cut pos last whole is = pairs_cut (cut - pos) pos last whole (omega arith) is

-- ---- the octets of a prefix are no more

pair_wire-prefix : (key : ℕ) (pairs rest : Pairs)
    → length (pair_wire key (value_at pairs key))
    ≤ length (pair_wire key (value_at (pairs ++ rest) key))
pair_wire-prefix key [] rest = omega arith
pair_wire-prefix key (pair ∷ pairs) rest = let later = pair_wire-prefix key pairs rest
    in grind arith

wire_from-prefix : (count key : ℕ) (pairs rest : Pairs)
    → length (wire_from count key pairs) ≤ length (wire_from count key (pairs ++ rest))
unfolding wire_from
wire_from-prefix zero key pairs rest = omega arith
wire_from-prefix (suc count) key pairs rest =
    let first = pair_wire-prefix key pairs rest in
    let later = wire_from-prefix count (key + 1) pairs rest in
    omega (
      arith,
      length-append (pair_wire key (value_at pairs key))
          (wire_from count (key + 1) pairs),
      length-append
          (pair_wire key (value_at (pairs ++ rest) key)) (wire_from count (key + 1) (pairs ++ rest)),
    )

wire-prefix : (pairs rest : Pairs) → length (wire pairs) ≤ length (wire (pairs ++ rest))
unfolding wire
wire-prefix pairs rest = wire_from-prefix 65536 0 pairs rest

-- ---- the record

-- the `n` octets from `start` on are short input, or are read with a prefix of the pairs
abbrev IsCut : List ℕ → ℕ → ℕ → Record → Type 0
IsCut message start n whole = (read message start n ≡ Err Short) ⊎ ReadsPrefix message start n whole

not_form : (message : List ℕ) (start n : ℕ) (whole : Record) → IsCut message start n whole
    → read message start n ≢ Err Form
not_form message start n whole (inl short) form = cc
not_form message start n whole (inr prefix) form = let is = prefix.2 in cc

module _ (message : List ℕ) (start len n : ℕ) (whole : Record) (shorter : n < len)
    (is : read message start len ≡ Ok whole) where
  -- data that ends in the priority, in the name, or in a pair
  short_priority : n < 2 → read message start n ≡ Err Short
  unfolding read
  short_priority short = grind (arith, nat_tests)

  short_name : name_at message (start + n) (start + 2) 0 0 ≡ Err Short
      → read message start n ≡ Err Short
  unfolding read
  short_name short = grind (arith, nat_tests)

  short_pairs : (name : NameRead) → name_at message (start + n) (start + 2) 0 0 ≡ Ok name
      → pairs_at message (start + n) name.next None ≡ Err Short
      → read message start n ≡ Err Short
  unfolding read
  short_pairs name name_is short = grind (arith, nat_tests)

  -- data that ends behind the name or behind a pair
  read_prefix : (name : NameRead) (pairs rest : Pairs) → 2 ≤ n
      → name_at message (start + n) (start + 2) 0 0 ≡ Ok name
      → name_at message (start + len) (start + 2) 0 0 ≡ Ok name
      → pairs_at message (start + n) name.next None ≡ Ok pairs
      → pairs_at message (start + len) name.next None ≡ Ok whole.pairs
      → pairs ++ rest ≡ whole.pairs → read message start n ≡ Ok (record whole { pairs = pairs })
  unfolding read
  read_prefix name pairs rest enough name_is name_was pairs_are pairs_were prefix =
      let fewer = wire-prefix pairs rest in grind (arith, nat_tests)

  cut_behind_name : (name : NameRead) → 2 ≤ n
      → name_at message (start + n) (start + 2) 0 0 ≡ Ok name
      → name_at message (start + len) (start + 2) 0 0 ≡ Ok name
      → pairs_at message (start + len) name.next None ≡ Ok whole.pairs → IsCut message start n whole
  cut_behind_name name enough name_is name_was pairs_were =
      elim (pairs_at-cut message (start + len) (start + n) (omega arith) name.next None whole.pairs
      pairs_were) [
        | inl short ↦ inl (short_pairs name name_is short)
        | inr found ↦ inr (
          found.0,
          found.1,
          read_prefix name found.0 found.1 enough name_is name_was found.2
              pairs_were found.3,
          found.3,
        )
      ]

  cut_by_name : (name : NameRead) (cut_name : Result NameRead Fault) → 2 ≤ n
      → name_at message (start + n) (start + 2) 0 0 ≡ cut_name
      → (cut_name ≢ Err Short → cut_name ≡ Ok name)
      → name_at message (start + len) (start + 2) 0 0 ≡ Ok name
      → pairs_at message (start + len) name.next None ≡ Ok whole.pairs → IsCut message start n whole
  cut_by_name name (Err Short) enough name_is same name_was pairs_were = inl (short_name name_is)
  cut_by_name name (Err Form) enough name_is same name_was pairs_were =
      absurd (let wrong = same (λ short. cc) in cc)
  cut_by_name name (Ok found) enough name_is same name_was pairs_were =
      cut_behind_name name enough (name_is ∙ same (λ short. cc)) name_was pairs_were

  read_cut : IsCut message start n whole
  read_cut =
      let parts = read_parts message start len whole is in
      let same = name_at-cut message (start + len) (start + n) (start + 2) 0 0 (omega arith) in
      elim (cases_lt n 2) [
        | inl short ↦ inl (short_priority short)
        | inr enough ↦ cut_by_name parts.name (name_at message (start + n) (start + 2) 0 0) enough
            refl (λ apart. same apart ∙ parts.name_is) parts.name_is parts.pairs_are
      ]

  pub truncated : IsCut message start n whole × (read message start n ≢ Err Form)
  truncated = (read_cut, not_form message start n whole read_cut)
