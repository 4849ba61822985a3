-- Protocols as a list and as a set.
use Rattle.std.proofs.Common.{◌≡◌, ℕ, ◌+◌, ◌<◌, Bool, true, false, cond, ◌||◌, List, [], ◌∷◌, ◌++◌, length, get_or, drop, refl, sym, ap, ◌∙◌}
use Rattle.std.specs.Prelude.{◌==◌, not}
use Rattle.std.specs.List.{list_any}
use Rattle.std.specs.Cmp.Lexicographic.{pointwise, texts_ties}
use Rattle.std.specs.BTreeSet.{BTreeSet, contains, Updates}
use Rattle.std.specs.BTreeMap.{is_at}
use Rattle.std.specs.Borrow.{Bor}
use Rattle.std.proofs.lemmas.List.{at_drop_more}
use Rattle.std.proofs.lemmas.List.Folds.{list_any-append}
use Rattle.svcb_choose.specs.Protocols.{is_listed, by_octets, with_defaults, IsSetOf}

or_last : (a b : Bool) → cond a true b ≡ (b || (a || false))
or_last true true = refl
or_last true false = refl
or_last false true = refl
or_last false false = refl

-- a set without protocols
pub none_known : (known : BTreeSet (Bor (List ℕ))) → known.keys ≡ [] → IsSetOf known []
none_known known empty protocol = ap (λ keys. list_any (is_at (by_octets protocol)) keys) empty

-- a set and a list take the same protocol
pub both_take : (old new : BTreeSet (Bor (List ℕ))) (listed : List (List ℕ))
    (added : Bor (List ℕ)) → IsSetOf old listed → Updates by_octets old new added true
    → IsSetOf new (listed ++ added.now ∷ [])
both_take old new listed added same updates protocol =
    updates.0 protocol
    ∙ ap (λ b. cond b true (contains by_octets old protocol))
    (sym (texts_ties added.now protocol.now))
    ∙ ap (λ b. cond (pointwise ◌==◌ added.now protocol.now) true b) (same protocol)
    ∙ or_last (pointwise ◌==◌ added.now protocol.now) (is_listed listed protocol.now)
    ∙ sym (list_any-append (λ other. pointwise ◌==◌ other protocol.now) listed (added.now ∷ []))

-- a set that stays is of the same list
pub set_stays : (old new : BTreeSet (Bor (List ℕ))) (listed : List (List ℕ))
    → IsSetOf old listed → new.keys ≡ old.keys → IsSetOf new listed
set_stays old new listed same stays protocol =
    ap (λ keys. list_any (is_at (by_octets protocol)) keys) stays ∙ same protocol

-- ---- a default more

took : (added has : Bool) → added ≡ not has → added ≡ true → has ≡ false
took added true is e = absurd cc
took added false is e = refl

left : (added has : Bool) → added ≡ not has → added ≡ false → has ≡ true
left added true is e = refl
left added false is e = absurd cc

module _ (listed defaults : List (List ℕ)) (i : ℕ) (protocol : List ℕ) (lt : i < length defaults)
    (at : protocol ≡ get_or defaults i protocol) (added : Bool)
    (is : added ≡ not (is_listed listed protocol)) where
  next : with_defaults listed (drop i defaults)
      ≡ with_defaults (cond (is_listed listed protocol) listed (listed ++ protocol ∷ []))
      (drop (i + 1) defaults)
  next = at_drop_more (with_defaults listed) defaults i protocol lt
      ∙ ap (λ p. with_defaults listed (p ∷ drop (i + 1) defaults)) (sym at)

  -- a default that the set took
  pub next_new : added ≡ true → with_defaults listed (drop i defaults)
      ≡ with_defaults (listed ++ protocol ∷ []) (drop (i + 1) defaults)
  next_new e = next ∙ ap (λ b. with_defaults (cond b listed (listed ++ protocol ∷ []))
      (drop (i + 1) defaults)) (took added (is_listed listed protocol) is e)

  -- a default that the set had
  pub next_known : added ≡ false → with_defaults listed (drop i defaults)
      ≡ with_defaults listed (drop (i + 1) defaults)
  next_known e = next ∙ ap (λ b. with_defaults (cond b listed (listed ++ protocol ∷ []))
      (drop (i + 1) defaults)) (left added (is_listed listed protocol) is e)
