-- Keys as a list and as a set.
use Rattle.std.proofs.Common.{◌≡◌, ℕ, ◌+◌, ◌<◌, Bool, true, false, cond, ◌||◌, List, [], ◌∷◌, length, get_or, drop, refl, sym, ap, ◌∙◌}
use Rattle.std.specs.Prelude.{◌==◌, ◌&&◌, Option, Some, None}
use Rattle.std.specs.List.{list_any, list_all}
use Rattle.std.specs.Ordering.{nat_cmp}
use Rattle.std.specs.Cmp.{unsigned_ties, nat_eq_equiv}
use Rattle.std.specs.BTreeSet.{BTreeSet, contains, Updates}
use Rattle.std.specs.BTreeMap.{is_at}
use Rattle.std.proofs.lemmas.List.{at_drop_more}
use Rattle.svcb_spec.specs.Params.{Pairs}
use Rattle.std.specs.Option.{option_map_or}
use Rattle.svcb_spec.specs.Values.{Value}
use Rattle.svcb_spec.specs.Records.{Record}
use Rattle.svcb_spec.specs.PrintedParams.{holds_key, ascends_above, has_some}
use Rattle.svcb_spec.specs.ParamTexts.{mandatory_keys}
use Rattle.svcb_params.specs.Items.{typed_at}
use Rattle.svcb_choose.specs.Usability.{are_well_formed, is_understood, are_met, has_named_protocols, has_alpn_for_no_default, is_usable, HasKeysOf}
use Rattle.svcb_choose.specs.Choosing.{endpoint_of, endpoints_from}

-- whether a number is in a set
pub has_number : (number : ℕ) (keys : List ℕ)
    → list_any (is_at (nat_cmp number)) keys ≡ is_understood keys number
has_number number [] = refl
has_number number (key ∷ keys) =
    ap (λ b. b || list_any (is_at (nat_cmp number)) keys)
    (sym (unsigned_ties number key) ∙ nat_eq_equiv.symm number key)
    ∙ ap (λ b. (key == number) || b) (has_number number keys)

regroup : (old is more : Bool) → (old || (is || more)) ≡ (cond is true old || more)
regroup true true more = refl
regroup true false more = refl
regroup false true more = refl
regroup false false more = refl

-- a set of some keys, and the keys that are left, have all keys
abbrev pub HaveAll : List ℕ → List ℕ → List ℕ → Type 0
HaveAll keys known left =
    (key : ℕ) → is_understood keys key ≡ (is_understood known key || is_understood left key)

pub none_yet : (keys known : List ℕ) → known ≡ [] → HaveAll keys known keys
none_yet keys known is key = ap (λ ks. is_understood ks key || is_understood keys key) (sym is)

or_false : (b : Bool) → (b || false) ≡ b
or_false true = refl
or_false false = refl

pub none_left : (keys known left : List ℕ) → left ≡ [] → HaveAll keys known left
    → HasKeysOf known keys
none_left keys known left is all key =
    sym (all key ∙ ap (λ ks. is_understood known key || is_understood ks key) is
    ∙ or_false (is_understood known key))

module _ (keys : List ℕ) (i : ℕ) (key : ℕ) (lt : i < length keys)
    (at : key ≡ get_or keys i key) (old new : BTreeSet ℕ)
    (updates : Updates nat_cmp old new key true) where
  taken : (other : ℕ) → is_understood new.keys other
      ≡ cond (key == other) true (is_understood old.keys other)
  taken other =
      sym (has_number other new.keys) ∙ updates.0 other
      ∙ ap (λ b. cond b true (contains nat_cmp old other)) (sym (unsigned_ties key other))
      ∙ ap (λ b. cond (key == other) true b) (has_number other old.keys)

  -- a key more
  pub next_taken : HaveAll keys old.keys (drop i keys) → HaveAll keys new.keys (drop (i + 1) keys)
  next_taken before other =
      let more = is_understood (drop (i + 1) keys) other in
      before other
      ∙ ap (λ b. is_understood old.keys other || b)
      (at_drop_more (λ ks. is_understood ks other) keys i key lt
      ∙ ap (λ k. is_understood (k ∷ drop (i + 1) keys) other) (sym at))
      ∙ regroup (is_understood old.keys other) (key == other) more
      ∙ ap (λ b. b || more) (sym (taken other))

-- ---- lists that have the same keys

module _ (known keys : List ℕ) (same : HasKeysOf known keys) where
  all_alike : (numbers : List ℕ)
      → list_all (is_understood known) numbers ≡ list_all (is_understood keys) numbers
  all_alike [] = refl
  all_alike (number ∷ numbers) =
      ap (λ b. b && list_all (is_understood known) numbers) (same number)
      ∙ ap (λ b. is_understood keys number && b) (all_alike numbers)

  met_alike : (pairs : Pairs) (value : Option Value)
      → option_map_or (λ v. are_met known pairs (mandatory_keys v)) value true
      ≡ option_map_or (λ v. are_met keys pairs (mandatory_keys v)) value true
  met_alike pairs None = refl
  met_alike pairs (Some value) =
      let numbers = mandatory_keys value in
      ap (λ b. has_some numbers
      && (ascends_above 0 numbers && list_all (holds_key pairs) numbers) && b) (all_alike numbers)

  usable_alike : (pairs : Pairs) → is_usable known pairs ≡ is_usable keys pairs
  unfolding is_usable
  usable_alike pairs =
      ap (λ b. are_well_formed pairs && b && has_named_protocols pairs
      && has_alpn_for_no_default pairs) (met_alike pairs (typed_at 0 pairs))

  -- the same endpoints are chosen
  pub endpoints_alike : (owner : List (List ℕ)) (defaults : List (List ℕ)) (place : ℕ)
      (records : List Record) → endpoints_from owner known defaults place records
      ≡ endpoints_from owner keys defaults place records
  endpoints_alike owner defaults place [] = refl
  endpoints_alike owner defaults place (found ∷ others) =
      let endpoint = endpoint_of owner defaults place found in
      ap (λ b. cond b (endpoint ∷ endpoints_from owner known defaults (place + 1) others)
      (endpoints_from owner known defaults (place + 1) others)) (usable_alike found.pairs)
      ∙ ap (λ behind. cond (is_usable keys found.pairs) (endpoint ∷ behind) behind)
      (endpoints_alike owner defaults (place + 1) others)
