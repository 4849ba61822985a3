-- A value that is put into the buffer, and its span under a key.
use Rattle.std.proofs.Common.{◌≡◌, ℕ, ◌+◌, ◌≤◌, ◌<◌, List, ◌++◌, None, length, sym, ap, ◌∙◌, arith, subst, length-append, append_assoc}
use Rattle.std.specs.Prelude.{is_some, Ok}
use Rattle.std.proofs.lemmas.Bool.Decides.{nat_tests}
use Rattle.std.specs.Ordering.{nat_cmp}
use Rattle.std.specs.BTreeMap.{insert_entry}
use Rattle.svcb_spec.specs.Params.{Pairs, value_at}
use Rattle.svcb_pairs.specs.BuilderState.{BuilderState, IsBuilderState}
use Rattle.svcb_pairs.specs.Pushing.{Pushes, IsPushAnswer}
use Rattle.svcb_pairs.specs.declared.errors.PushError.{PushError}
use Rattle.svcb_pairs.specs.declared.span.Span.{Span}
use Rattle.svcb_pairs.specs.Spans.{KeyedSpans, limited_pairs, AreInside, AreSpans}
use Rattle.svcb_pairs.proofs.Builds.{is_grown}
use Rattle.svcb_pairs.proofs.SpanLemmas.{limited_pairs-append, octets_of_span-new, limited_pairs-insert, inside-insert, inside-more}

-- a push was accepted
abbrev pub IsPushed : BuilderState → BuilderState → ℕ → List ℕ → Type 0
IsPushed old new key octets =
    Pushes {E = PushError} old new key octets (Ok tt) (IsPushAnswer (Ok tt))

-- a pair that is new and fits is pushed
pair_pushed : (pairs pairs' : Pairs) (len grown limit key : ℕ) (value : List ℕ)
    → IsBuilderState pairs len limit → value_at pairs key ≡ None
    → pairs' ≡ insert_entry nat_cmp pairs key value → grown ≡ len + 4 + length value → grown ≤ limit
    → IsPushed (record { pairs = pairs; limit = limit }) (record { pairs = pairs'; limit = limit })
    key value
pair_pushed pairs pairs' len grown limit key value builder absent put counted within = record {
  answer = grind (arith, nat_tests, ap is_some absent, builder.len_is);
  ok = ap (λ pairs. let state : BuilderState = record { pairs = pairs; limit = limit }
      in state) put;
  fresh = ap is_some absent;
  fits = omega (arith, builder.len_is);
  err = tt;
}

module _ (read own own' value : List ℕ) (spans spans' : KeyedSpans) (key start len : ℕ)
    (inside : AreInside (length read) (length read + length own) spans)
    (from : start ≡ length read + length own) (long : len ≡ length value)
    (more : own' ≡ own ++ value)
    (put : spans' ≡ insert_entry nat_cmp spans key (record { start = start; len = len })) where
  abbrev span : Span
  span = record { start = start; len = len }

  abbrev pairs : Pairs
  pairs = limited_pairs (read ++ own) spans

  abbrev pairs' : Pairs
  pairs' = limited_pairs (read ++ own') spans'

  as_long : length read + length own ≡ length (read ++ own)
  as_long = sym (length-append read own)

  longer : length own' ≡ length own + length value
  longer = ap length more ∙ length-append own value

  -- the pair is put under the key
  spanned_put : pairs' ≡ insert_entry nat_cmp pairs key value
  spanned_put =
      ap (λ octets. limited_pairs (read ++ octets) spans') more
      ∙ ap (λ octets. limited_pairs octets spans') (sym (append_assoc read own value))
      ∙ ap (limited_pairs ((read ++ own) ++ value)) put
      ∙ limited_pairs-insert ((read ++ own) ++ value) spans key span
      ∙ ap (λ octets. insert_entry nat_cmp (limited_pairs ((read ++ own) ++ value) spans) key
      octets) (octets_of_span-new (read ++ own) value span (from ∙ as_long) long)
      ∙ ap (λ pairs. insert_entry nat_cmp pairs key value)
      (limited_pairs-append (length read) (read ++ own) value spans
      (subst (λ n. AreInside (length read) n spans) as_long inside))

  inside_put : AreInside (length read) (length read + length own') spans'
  inside_put =
      subst (AreInside (length read) (length read + length own')) (sym put)
      (inside-insert (length read) (length read + length own') spans key span
      (record { within = omega (arith, longer); unbroken = λ before. omega (arith, longer) })
      (inside-more (length read) (length read + length own) (length read + length own') spans
      (omega (arith, longer)) inside))

  module _ (wire_len grown limit : ℕ) (are : AreSpans read own spans wire_len limit)
      (absent : value_at pairs key ≡ None) (counted : grown ≡ wire_len + 4 + length value)
      (within : grown ≤ limit) where
    pub spans_put : key < 65536 → length value < 65536 → AreSpans read own' spans' grown limit
    spans_put in_range fits = record {
      builder = is_grown pairs pairs' wire_len limit key grown value are.builder in_range fits
          absent spanned_put counted within;
      inside = inside_put;
      fits = omega (arith, are.fits, longer);
    }

    pub value_pushed : (number : ℕ) → key ≡ number
        → IsPushed (record { pairs = pairs; limit = limit })
        (record { pairs = pairs'; limit = limit }) number value
    value_pushed number is =
        subst (λ n. IsPushed (record { pairs = pairs; limit = limit })
        (record { pairs = pairs'; limit = limit }) n value) is
        (pair_pushed pairs pairs' wire_len grown limit key value are.builder absent spanned_put
        counted within)
