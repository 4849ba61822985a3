-- Spans in a run of octets, and the pairs that they stand for.
use Rattle.std.proofs.Common.{◌≡◌, ℕ, ◌+◌, ◌≤◌, ◌<◌, ◌^◌, List, [], ◌∷◌, ◌++◌, Some, None, true, false, cond, length, refl, ap, ◌∙◌, arith, Less, Equal, Greater}
use Rattle.std.specs.Prelude.{option_map}
use Rattle.std.proofs.lemmas.Grind.{common_steps}
use Rattle.std.specs.Ordering.{nat_cmp, match_ordering}
use Rattle.std.specs.Map.{lookup}
use Rattle.std.specs.BTreeMap.{is_at, insert_entry}
use Rattle.svcb_spec.specs.Params.{Pair, value_at}
use Rattle.svcb_pairs.specs.declared.span.Span.{Span}
use Rattle.svcb_pairs.specs.Spans.{KeyedSpans, octets_of_span, limited_pairs, IsInside, AreInside, AreSpans}
use Rattle.svcb_pairs.proofs.Builds.{no_pairs}

-- octets behind a span are of no account to it
octets_of_span-append : (octets more : List ℕ) (span : Span)
    → span.start + span.len ≤ length octets
    → octets_of_span (octets ++ more) span ≡ octets_of_span octets span
octets_of_span-append octets more span within = grind (arith, common_steps)

pub limited_pairs-append : (read : ℕ) (octets more : List ℕ) (spans : KeyedSpans)
    → AreInside read (length octets) spans
    → limited_pairs (octets ++ more) spans ≡ limited_pairs octets spans
limited_pairs-append read octets more [] inside = refl
limited_pairs-append read octets more (entry ∷ spans) inside =
    rw (
      octets_of_span-append octets more entry.1 inside.0.within,
      limited_pairs-append read octets
          more spans inside.1,
    ) refl

-- the octets that were appended
pub octets_of_span-new : (octets value : List ℕ) (span : Span) → span.start ≡ length octets
    → span.len ≡ length value → octets_of_span (octets ++ value) span ≡ value
octets_of_span-new octets value span from long = grind (arith, common_steps)

-- a span that is put under a key is its pair put there
pub limited_pairs-insert : (octets : List ℕ) (spans : KeyedSpans) (key : ℕ) (span : Span)
    → limited_pairs octets (insert_entry nat_cmp spans key span)
    ≡ insert_entry nat_cmp (limited_pairs octets spans) key (octets_of_span octets span)
limited_pairs-insert octets [] key span = refl
limited_pairs-insert octets (entry ∷ spans) key span =
    let pair : Pair = (entry.0, octets_of_span octets entry.1) in
    let value : List ℕ = octets_of_span octets span in
    elim (nat_cmp key entry.0) as
    (λ order. limited_pairs octets
    (match_ordering order ((key, span) ∷ entry ∷ spans) ((entry.0, span) ∷ spans)
    (entry ∷ insert_entry nat_cmp spans key span))
    ≡ match_ordering order ((key, value) ∷ limited_pairs octets (entry ∷ spans))
    ((entry.0, value) ∷ limited_pairs octets spans)
    (pair ∷ insert_entry nat_cmp (limited_pairs octets spans) key value)) [
      | Less ↦ refl
      | Equal ↦ refl
      | Greater ↦ ap (λ pairs. pair ∷ pairs) (limited_pairs-insert octets spans key span)
    ]

-- what stands under a key is what its span stands for
pub value_at-limited_pairs : (octets : List ℕ) (spans : KeyedSpans) (key : ℕ)
    → value_at (limited_pairs octets spans) key
    ≡ option_map (octets_of_span octets) (lookup (is_at (nat_cmp key)) spans)
value_at-limited_pairs octets [] key = refl
value_at-limited_pairs octets (entry ∷ spans) key =
    elim (is_at (nat_cmp key) entry.0) as
    (λ found. cond found (Some (octets_of_span octets entry.1))
    (value_at (limited_pairs octets spans) key)
    ≡ option_map (octets_of_span octets)
    (cond found (Some entry.1) (lookup (is_at (nat_cmp key)) spans))) [
      | true ↦ refl
      | false ↦ value_at-limited_pairs octets spans key
    ]

pub new_key : (octets : List ℕ) (spans : KeyedSpans) (key : ℕ)
    → lookup (is_at (nat_cmp key)) spans ≡ None → value_at (limited_pairs octets spans) key ≡ None
new_key octets spans key absent =
    value_at-limited_pairs octets spans key ∙ ap (option_map (octets_of_span octets)) absent

-- for the push of a value
pub ruleset span_rules = (value_at-limited_pairs)

-- ---- spans within a run

pub inside-insert : (read len : ℕ) (spans : KeyedSpans) (key : ℕ) (span : Span)
    → IsInside read len span → AreInside read len spans
    → AreInside read len (insert_entry nat_cmp spans key span)
inside-insert read len [] key span is inside = (is, tt)
inside-insert read len (entry ∷ spans) key span is inside =
    elim (nat_cmp key entry.0) as
    (λ order. AreInside read len
    (match_ordering order ((key, span) ∷ entry ∷ spans) ((entry.0, span) ∷ spans)
    (entry ∷ insert_entry nat_cmp spans key span))) [
      | Less ↦ (is, inside)
      | Equal ↦ (is, inside.1)
      | Greater ↦ (inside.0, inside-insert read len spans key span is inside.1)
    ]

-- the run grows
pub inside-more : (read len len' : ℕ) (spans : KeyedSpans) → len ≤ len' → AreInside read len spans
    → AreInside read len' spans
inside-more read len len' [] more inside = tt
inside-more read len len' (entry ∷ spans) more inside = (
  record { within = omega (arith, inside.0.within); unbroken = inside.0.unbroken },
  inside-more
      read len len' spans more inside.1,
)

-- no spans
pub no_spans : (own : List ℕ) (spans : KeyedSpans) (limit : ℕ) → own ≡ [] → spans ≡ []
    → limit < 2 ^ 31 → AreSpans [] own spans 0 limit
no_spans own spans limit none_own none in_range =
    rw (none_own, none)
    (record { builder = no_pairs [] limit refl in_range; inside = tt; fits = omega arith })
