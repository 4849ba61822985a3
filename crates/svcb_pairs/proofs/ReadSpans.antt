-- The spans of parameters that were read.
use Rattle.std.proofs.Common.{◌≡◌, ℕ, ◌+◌, ◌-◌, ◌≤◌, ◌<◌, ◌^◌, List, [], ◌∷◌, ◌++◌, Bool, true, false, cond, Some, length, drop, refl, sym, ap, ◌∙◌, arith, subst, Less, length-append, append_assoc}
use Rattle.std.specs.Prelude.{◌&&◌, T}
use Rattle.std.proofs.lemmas.List.{append-nil}
use Rattle.std.proofs.lemmas.Cmp.{nat_cmp_total, eq_by_cmp_equiv}
use Rattle.std.proofs.lemmas.Map.Keys.{IsDistinct-from_sorted}
use Rattle.std.proofs.lemmas.Map.Lookups.{exact_unsigned}
use Rattle.std.proofs.lemmas.Map.Made.{update_all_none}
use Rattle.std.specs.Cmp.{nat_cmp_is}
use Rattle.std.specs.Ordering.{nat_cmp, eq_by_cmp}
use Rattle.std.specs.List.{AllByRecursion}
use Rattle.std.specs.List.Sorted.{IsStrictlySortedBy}
use Rattle.std.specs.FinMap.Entries.{below_all, is_sorted, find, same_entries}
use Rattle.std.specs.Map.{keys_of, lookup}
use Rattle.std.specs.BTreeMap.{BTreeMap, is_at, IsFromIterResult}
use Rattle.name_spec.specs.Octets.{be2}
use Rattle.svcb_spec.specs.Params.{Pairs, Ascends, IsMap, pairs_wire}
use Rattle.svcb_spec.proofs.PairsBack.{drop-behind, slice_range-front}
use Rattle.svcb_pairs.specs.Parameters.{pairs_in, IsParameters}
use Rattle.svcb_pairs.specs.BuilderState.{IsBuilderState}
use Rattle.svcb_pairs.specs.declared.span.Span.{Span}
use Rattle.svcb_pairs.specs.Spans.{KeyedSpans, octets_of_span, limited_pairs, IsInside, AreInside, AreSpans}
use Rattle.svcb_pairs.proofs.Reading.{octets_are_wire}

-- ---- one span behind the other

limited_pairs-behind : (octets : List ℕ) (spans : KeyedSpans) (key : ℕ) (span : Span)
    → limited_pairs octets (spans ++ (key, span) ∷ [])
    ≡ limited_pairs octets spans ++ (key, octets_of_span octets span) ∷ []
limited_pairs-behind octets [] key span = refl
limited_pairs-behind octets (entry ∷ spans) key span =
    ap (λ pairs. (entry.0, octets_of_span octets entry.1) ∷ pairs)
    (limited_pairs-behind octets spans key span)

inside-behind : (read len : ℕ) (spans : KeyedSpans) (key : ℕ) (span : Span)
    → IsInside read len span → AreInside read len spans
    → AreInside read len (spans ++ (key, span) ∷ [])
inside-behind read len [] key span is inside = (is, tt)
inside-behind read len (entry ∷ spans) key span is inside =
    (inside.0, inside-behind read len spans key span is inside.1)

-- `rest` is the end of `octets`, and begins with the pair of a key and a value
module _ (octets rest behind value : List ℕ) (key : ℕ)
    (here : drop (length octets - length rest) octets ≡ rest) (short : length rest ≤ length octets)
    (are : IsParameters rest) (are_behind : IsParameters behind)
    (first : pairs_in rest ≡ (key, value) ∷ pairs_in behind) where
  front : List ℕ
  front = be2 key ++ be2 (length value)

  spread : rest ≡ (be2 key ++ be2 (length value) ++ value) ++ behind
  spread = octets_are_wire rest are ∙ ap pairs_wire first
      ∙ ap (λ octets. (be2 key ++ be2 (length value) ++ value) ++ octets)
      (sym (octets_are_wire behind are_behind))

  pub first_long : length rest ≡ 4 + length value + length behind
  first_long = omega
      (arith, ap length spread, length-append (be2 key ++ be2 (length value) ++ value) behind)

  at_value : drop (length octets - length rest + 4) octets ≡ value ++ behind
  at_value = drop-behind octets (be2 key ++ be2 (length value)) (value ++ behind)
      (length octets - length rest)
      (here ∙ spread ∙ append_assoc (be2 key ++ be2 (length value)) value behind)

  -- the octets behind the pair are the end
  pub behind_here : drop (length octets - length behind) octets ≡ behind
  behind_here =
      let place : length octets - length rest + 4 + length value ≡ length octets - length behind =
      omega (arith, first_long) in
      subst (λ n. drop n octets ≡ behind) place
      (drop-behind octets value behind (length octets - length rest + 4) at_value)

  module _ (spans spans' : KeyedSpans) (start : ℕ)
      (from : start ≡ length octets - length behind - length value)
      (put : spans'
      ≡ spans ++ (key, let span : Span = record { start = start; len = length value } in span)
      ∷ []) where
    abbrev span : Span
    span = record { start = start; len = length value }

    value_here : octets_of_span octets span ≡ value
    value_here =
        let place : length octets - length rest + 4 ≡ start = omega (arith, first_long) in
        slice_range-front octets value behind start (start + length value) refl
        (subst (λ n. drop n octets ≡ value ++ behind) place at_value)

    pub next_spanned : limited_pairs octets spans ++ pairs_in rest ≡ pairs_in octets
        → limited_pairs octets spans' ++ pairs_in behind ≡ pairs_in octets
    next_spanned so_far =
        ap (λ spans. limited_pairs octets spans ++ pairs_in behind) put
        ∙ ap (λ pairs. pairs ++ pairs_in behind)
        (limited_pairs-behind octets spans key span
        ∙ ap (λ octets'. limited_pairs octets spans ++ (key, octets') ∷ []) value_here)
        ∙ append_assoc (limited_pairs octets spans) ((key, value) ∷ []) (pairs_in behind)
        ∙ ap (λ pairs. limited_pairs octets spans ++ pairs) (sym first)
        ∙ so_far

    pub next_inside : AreInside (length octets) (length octets) spans
        → AreInside (length octets) (length octets) spans'
    next_inside inside =
        subst (AreInside (length octets) (length octets)) (sym put)
        (inside-behind (length octets) (length octets) spans key span
        (record {
          within = omega (arith, first_long);
          unbroken = λ before. omega (arith, first_long);
        }) inside)

-- no pairs are left
pub all_spanned : (octets rest : List ℕ) (spans : KeyedSpans) → pairs_in rest ≡ []
    → limited_pairs octets spans ++ pairs_in rest ≡ pairs_in octets
    → limited_pairs octets spans ≡ pairs_in octets
all_spanned octets rest spans none so_far =
    sym (append-nil (limited_pairs octets spans))
    ∙ ap (λ pairs. limited_pairs octets spans ++ pairs) (sym none) ∙ so_far

-- ---- the map of spans whose keys ascend

above_all : (octets : List ℕ) (key least : ℕ) (spans : KeyedSpans) → key < least
    → Ascends least (limited_pairs octets spans)
    → AllByRecursion (λ k. nat_cmp key k ≡ Less) (keys_of spans)
above_all octets key least [] below up = tt
above_all octets key least (entry ∷ spans) below up = (
  sym (nat_cmp_is key entry.0 Less (omega (arith, up.0))),
  above_all octets key
      (entry.0 + 1) spans (omega (arith, up.0)) up.3,
)

keys_sorted : (octets : List ℕ) (least : ℕ) (spans : KeyedSpans)
    → Ascends least (limited_pairs octets spans) → IsStrictlySortedBy nat_cmp (keys_of spans)
unfolding IsStrictlySortedBy
keys_sorted octets least [] up = tt
keys_sorted octets least (entry ∷ spans) up = (
  above_all octets entry.0 (entry.0 + 1) spans (omega arith) up.3,
  keys_sorted octets
      (entry.0 + 1) spans up.3,
)

-- the tests of std that say the same
both : (a b : Bool) → T a → T b → T (a && b)
both true b first second = second
both false b first second = absurd first

is_below : (key : ℕ) (spans : KeyedSpans)
    → AllByRecursion (λ k. nat_cmp key k ≡ Less) (keys_of spans) → T (below_all nat_cmp key spans)
is_below key [] all = tt
is_below key (entry ∷ spans) all = rw all.0 (is_below key spans all.1)

are_sorted : (spans : KeyedSpans) → IsStrictlySortedBy nat_cmp (keys_of spans)
    → T (is_sorted nat_cmp spans)
unfolding IsStrictlySortedBy
are_sorted [] sorted = tt
are_sorted (entry ∷ spans) sorted =
    both (below_all nat_cmp entry.0 spans) (is_sorted nat_cmp spans)
    (is_below entry.0 spans sorted.0) (are_sorted spans sorted.1)

find-lookup : (key : ℕ) (spans : KeyedSpans)
    → find nat_cmp key spans ≡ lookup (is_at (nat_cmp key)) spans
find-lookup key [] = refl
find-lookup key (entry ∷ spans) =
    ap (cond (is_at (nat_cmp key) entry.0) (Some entry.1)) (find-lookup key spans)

-- the map holds the entries that it was made of
pub made_of : (octets : List ℕ) (entries : KeyedSpans) (made : BTreeMap ℕ Span)
    → IsMap (limited_pairs octets entries) → IsFromIterResult nat_cmp entries made
    → made.entries ≡ entries
made_of octets entries made is_map from =
    let sorted : IsStrictlySortedBy nat_cmp (keys_of entries) = keys_sorted octets 0 entries is_map
    in
    let distinct = IsDistinct-from_sorted nat_cmp (keys_of entries) sorted in
    same_entries nat_cmp nat_cmp_total exact_unsigned made.entries entries
    (are_sorted made.entries from.1) (are_sorted entries sorted)
    (λ key. find-lookup key made.entries ∙ from.0 key
    ∙ update_all_none (eq_by_cmp_equiv nat_cmp_total) (eq_by_cmp nat_cmp)
    (λ _ _. refl) entries key distinct
    ∙ sym (find-lookup key entries))

-- ---- the pairs of parameters

-- the whole run is one buffer's
inside-buffer : (read len : ℕ) (spans : KeyedSpans) → AreInside read len spans
    → AreInside 0 len spans
inside-buffer read len [] inside = tt
inside-buffer read len (entry ∷ spans) inside = (
  record { within = inside.0.within; unbroken = λ before. omega arith },
  inside-buffer read len
      spans inside.1,
)

read_builder : (octets : List ℕ) (pairs : Pairs) (limit : ℕ) → pairs ≡ pairs_in octets
    → IsParameters octets → length octets ≤ limit → limit < 2 ^ 31
    → IsBuilderState pairs (length octets) limit
read_builder octets pairs limit is are within in_range =
    rw is (record {
      is_map = are.is_map;
      len_is = ap length (sym are.wire);
      within = within;
      in_range = in_range;
    })

module _ (octets : List ℕ) (spans : KeyedSpans) (limit : ℕ) (are : IsParameters octets)
    (within : length octets ≤ limit) (in_range : limit < 2 ^ 31)
    (pairs : limited_pairs octets spans ≡ pairs_in octets)
    (inside : AreInside (length octets) (length octets) spans) where
  -- the values stand in a copy of the octets
  pub copied_spans : (own : List ℕ) → own ≡ octets → AreSpans [] own spans (length octets) limit
  copied_spans own same =
      rw same
      (record {
        builder = read_builder octets (limited_pairs octets spans) limit pairs are within in_range;
        inside = subst (λ len. AreInside 0 len spans) (omega arith)
            (inside-buffer (length octets) (length octets) spans inside);
        fits = omega arith;
      })
