-- Pushes that are tried one after the other.
use Rattle.std.proofs.Common.{◌≡◌, ℕ, suc, ◌+◌, ◌<◌, ◌≤◌, List, [], ◌∷◌, ◌++◌, length, map, drop, get_or, sym, subst, ◌∙◌, ap, append_assoc, add-one}
use Rattle.std.proofs.Math.Seq.{drop-cons}
use Rattle.std.proofs.Math.ListN.{drop_of_length-le}
use Rattle.std.proofs.lemmas.List.{append-nil}
use Rattle.svcb_spec.specs.declared.Reply.{Reply}
use Rattle.svcb_spec.specs.Values.{Value, IsValue, AreValues}
use Rattle.svcb_spec.specs.Rebuilding.{Pushed, accept}
use Rattle.svcb_pairs.specs.BuilderState.{BuilderState}
use Rattle.svcb_rdata.specs.Pushing.{reply_of_value, behind_value}

-- the replies so far, in front of those to come
abbrev pub with_replies : List Reply → Pushed → Pushed
with_replies front pushed = record { pairs = pushed.pairs; replies = front ++ pushed.replies }

-- the values that are left from an index on
abbrev pub left_from : {X : Type 0} → (X → Value) → ℕ → List X → List Value
left_from value_of i pushes = map value_of (drop i pushes)

module _ {X : Type 0} (value_of : X → Value) (pushes : List X) (i : ℕ) where
  left_none : length pushes ≤ i → left_from value_of i pushes ≡ []
  left_none none = ap (map value_of) (drop_of_length-le pushes none)

  left_next : (push : X) → i < length pushes → push ≡ get_or pushes i push
      → left_from value_of i pushes ≡ value_of push ∷ left_from value_of (i + 1) pushes
  left_next push here item =
      let next : drop i pushes ≡ push ∷ drop (i + 1) pushes =
      rw add-one (drop-cons pushes i push here
      ∙ ap (λ first. first ∷ drop (suc i) pushes) (sym item)) in
      ap (map value_of) next

  -- no value is left
  pub are_none : length pushes ≤ i → AreValues (left_from value_of i pushes)
  are_none none = subst AreValues (sym (left_none none)) tt

  -- the next one is a value, and so are those behind it
  pub are_next : (push : X) → i < length pushes → push ≡ get_or pushes i push
      → IsValue (value_of push) → AreValues (left_from value_of (i + 1) pushes)
      → AreValues (left_from value_of i pushes)
  are_next push here item is rest = subst AreValues (sym (left_next push here item)) (is, rest)

  module _ (builder : BuilderState) (front : List Reply) where
    -- no push is left
    pub accept_none : length pushes ≤ i
        → with_replies front (accept builder.pairs builder.limit (left_from value_of i pushes))
        ≡ record { pairs = builder.pairs; replies = front }
    unfolding accept
    accept_none none =
        ap (λ left. with_replies front (accept builder.pairs builder.limit left)) (left_none none)
        ∙ ap (λ replies. let pushed : Pushed = record { pairs = builder.pairs; replies = replies }
        in pushed) (append-nil front)

    -- the next push has the next reply
    pub accept_next : (push : X) (builder' : BuilderState) (reply : Reply) (front' : List Reply)
        → i < length pushes → push ≡ get_or pushes i push
        → reply ≡ reply_of_value builder (value_of push)
        → builder' ≡ behind_value builder (value_of push) reply → front' ≡ front ++ reply ∷ []
        → with_replies front (accept builder.pairs builder.limit (left_from value_of i pushes))
        ≡ with_replies front'
        (accept builder'.pairs builder'.limit (left_from value_of (i + 1) pushes))
    unfolding accept
    accept_next push builder' reply front' here item is moved more =
        let first = reply_of_value builder (value_of push) in
        let rest = accept (behind_value builder (value_of push) first).pairs builder.limit
        (left_from value_of (i + 1) pushes) in
        ap (λ left. with_replies front (accept builder.pairs builder.limit left))
        (left_next push here item)
        ∙ rw (more, moved, is)
        (ap (λ replies. let pushed : Pushed = record { pairs = rest.pairs; replies = replies }
        in pushed) (sym (append_assoc front (first ∷ []) rest.replies)))
