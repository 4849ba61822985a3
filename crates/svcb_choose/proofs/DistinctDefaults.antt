-- Defaults that are added once repeated ones were dropped.
use Rattle.std.proofs.Common.{◌≡◌, ℕ, ◌+◌, Bool, true, false, cond, ◌||◌, List, [], ◌∷◌, ◌++◌, refl, sym, ap, ◌∙◌}
use Rattle.std.specs.Prelude.{◌==◌, is_some}
use Rattle.std.specs.Cmp.Lexicographic.{pointwise}
use Rattle.std.proofs.lemmas.Cmp.{nat_list_eq_equiv}
use Rattle.std.proofs.lemmas.List.Folds.{list_any-append}
use Rattle.svcb_spec.specs.Params.{Pairs}
use Rattle.svcb_spec.specs.Records.{Record}
use Rattle.svcb_params.specs.Items.{typed_at}
use Rattle.svcb_choose.specs.Usability.{is_usable}
use Rattle.svcb_choose.specs.Protocols.{is_listed, with_defaults, alpn_items, protocols_of}
use Rattle.svcb_choose.specs.Choosing.{port_of, target_of, endpoint_of, endpoints_from}
use Rattle.svcb_choose.specs.declared.choice.Endpoint.{Endpoint}

-- a protocol more, unless it is listed
abbrev one_more : List (List ℕ) → List ℕ → List (List ℕ)
one_more listed protocol =
    cond (is_listed listed protocol) listed (listed ++ protocol ∷ [])

or_true : (b : Bool) → (b || true) ≡ true
or_true true = refl
or_true false = refl

-- equal protocols are listed alike
listed_alike : (protocol other : List ℕ) → pointwise ◌==◌ protocol other ≡ true
    → (listed : List (List ℕ)) → is_listed listed protocol ≡ is_listed listed other
listed_alike protocol other same [] = refl
listed_alike protocol other same (first ∷ listed) =
    ap (λ b. b || is_listed listed protocol)
    (nat_list_eq_equiv.symm first protocol ∙ nat_list_eq_equiv.congr protocol other first same
    ∙ nat_list_eq_equiv.symm other first)
    ∙ ap (λ b. pointwise ◌==◌ first other || b) (listed_alike protocol other same listed)

module _ (listed : List (List ℕ)) (protocol : List ℕ) where
  stays : (other : List ℕ) (b : Bool) → is_listed listed other ≡ true
      → is_listed (cond b listed (listed ++ protocol ∷ [])) other ≡ true
  stays other true is = is
  stays other false is =
      list_any-append (λ p. pointwise ◌==◌ p other) listed (protocol ∷ [])
      ∙ ap (λ b. b || is_listed (protocol ∷ []) other) is

  itself : (b : Bool) → is_listed listed protocol ≡ b
      → is_listed (cond b listed (listed ++ protocol ∷ [])) protocol ≡ true
  itself true is = is
  itself false is =
      list_any-append (λ p. pointwise ◌==◌ p protocol) listed (protocol ∷ [])
      ∙ ap (λ b. is_listed listed protocol || (b || false)) (nat_list_eq_equiv.refl protocol)
      ∙ or_true (is_listed listed protocol)

-- what is listed stays so
stays_listed : (listed defaults : List (List ℕ)) (other : List ℕ) → is_listed listed other ≡ true
    → is_listed (with_defaults listed defaults) other ≡ true
stays_listed listed [] other is = is
stays_listed listed (protocol ∷ defaults) other is =
    stays_listed (one_more listed protocol) defaults other
    (stays listed protocol other (is_listed listed protocol) is)

-- each default is listed in the end
lists_this : (listed defaults : List (List ℕ)) (protocol other : List ℕ) (b : Bool)
    → pointwise ◌==◌ protocol other ≡ b → (b || is_listed defaults other) ≡ true
    → (is_listed defaults other ≡ true
    → is_listed (with_defaults (one_more listed protocol) defaults) other ≡ true)
    → is_listed (with_defaults (one_more listed protocol) defaults) other ≡ true
lists_this listed defaults protocol other true same is others =
    let more = one_more listed protocol in
    stays_listed more defaults other
    (sym (listed_alike protocol other same more)
    ∙ itself listed protocol (is_listed listed protocol) refl)
lists_this listed defaults protocol other false same is others = others is

lists_default : (listed defaults : List (List ℕ)) (other : List ℕ)
    → is_listed defaults other ≡ true → is_listed (with_defaults listed defaults) other ≡ true
lists_default listed [] other is = absurd cc
lists_default listed (protocol ∷ defaults) other is =
    lists_this listed defaults protocol other (pointwise ◌==◌ protocol other) refl is
    (lists_default (one_more listed protocol) defaults other)

add_last : (listed defaults : List (List ℕ)) (protocol : List ℕ)
    → with_defaults listed (defaults ++ protocol ∷ [])
    ≡ one_more (with_defaults listed defaults) protocol
add_last listed [] protocol = refl
add_last listed (first ∷ defaults) protocol =
    add_last (one_more listed first) defaults protocol

module _ (listed seen : List (List ℕ)) (protocol : List ℕ) where
  add_next : (b : Bool) → is_listed seen protocol ≡ b
      → with_defaults listed (cond b seen (seen ++ protocol ∷ []))
      ≡ one_more (with_defaults listed seen) protocol
  add_next true is =
      let before = with_defaults listed seen in
      sym (ap (λ b. cond b before (before ++ protocol ∷ [])) (lists_default listed seen protocol is))
  add_next false is = add_last listed seen protocol

distinct_after : (listed seen defaults : List (List ℕ))
    → with_defaults listed (with_defaults seen defaults)
    ≡ with_defaults (with_defaults listed seen) defaults
distinct_after listed seen [] = refl
distinct_after listed seen (protocol ∷ defaults) =
    distinct_after listed (one_more seen protocol) defaults
    ∙ ap (λ ps. with_defaults ps defaults)
    (add_next listed seen protocol (is_listed seen protocol) refl)

module _ (owner : List (List ℕ)) (understood : List ℕ) (defaults : List (List ℕ)) where
  same_protocols : (pairs : Pairs)
      → protocols_of (with_defaults [] defaults) pairs ≡ protocols_of defaults pairs
  unfolding protocols_of
  same_protocols pairs =
      ap (λ ps. cond (is_some (typed_at 2 pairs)) (alpn_items pairs) ps)
      (distinct_after (alpn_items pairs) [] defaults)

  same_endpoint : (place : ℕ) (found : Record)
      → endpoint_of owner (with_defaults [] defaults) place found
      ≡ endpoint_of owner defaults place found
  unfolding endpoint_of
  same_endpoint place found =
      let with_protocols : List (List ℕ) → Endpoint = λ ps. record {
        index = place;
        target = target_of owner found.labels;
        port = port_of found.pairs;
        protocols = ps;
      } in
      ap with_protocols (same_protocols found.pairs)

  -- the same endpoints are chosen
  pub distinct_alike : (place : ℕ) (records : List Record)
      → endpoints_from owner understood (with_defaults [] defaults) place records
      ≡ endpoints_from owner understood defaults place records
  distinct_alike place [] = refl
  distinct_alike place (found ∷ others) =
      let left = endpoints_from owner understood (with_defaults [] defaults) (place + 1) others in
      let usable = is_usable understood found.pairs in
      ap (λ endpoint. cond usable (endpoint ∷ left) left) (same_endpoint place found)
      ∙ ap (λ behind. cond usable (endpoint_of owner defaults place found ∷ behind) behind)
      (distinct_alike (place + 1) others)
