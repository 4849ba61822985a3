-- Keys in ascending order are the same keys, each above the one before it.
use Rattle.std.proofs.Common.{◌≡◌, ℕ, ◌<◌, Bool, true, false, cond, not, ◌&&◌, ◌||◌, IsPermutation, List, [], ◌∷◌, refl, sym, ap, ◌∙◌, arith}
use Rattle.std.specs.Prelude.{◌==◌, nat_lt, nat_le}
use Rattle.std.specs.List.{list_any, AllByRecursion}
use Rattle.std.proofs.lemmas.Bool.{and_parts}
use Rattle.std.proofs.lemmas.Bool.Decides.{nat_tests}
use Rattle.std.proofs.lemmas.List.Sorted.{IsPermutation-refl, IsPermutation-trans, IsPermutation-cons, IsPermutation-middle, list_any-IsPermutation}
use Rattle.svcb_spec.specs.ValueTexts.{insert_ascending, in_ascending_order}
use Rattle.svcb_spec.specs.PrintedParams.{ascends_above, are_distinct}
use Rattle.svcb_laws.specs.ParamTextLaws.{AscendingKeys}

-- ---- the same keys

insert-permutation : (n : ℕ) (keys : List ℕ) → IsPermutation (n ∷ keys) (insert_ascending n keys)
insert-permutation n [] = IsPermutation-refl (n ∷ [])
insert-permutation n (key ∷ keys) =
    elim (nat_le n key) as
    (λ b. IsPermutation (n ∷ key ∷ keys)
    (cond b (n ∷ key ∷ keys) (key ∷ insert_ascending n keys))) [
      | true ↦ IsPermutation-refl (n ∷ key ∷ keys)
      | false ↦ IsPermutation-trans (n ∷ key ∷ keys) (key ∷ n ∷ keys)
          (key ∷ insert_ascending n keys)
          (IsPermutation-middle (n ∷ []) key keys)
          (IsPermutation-cons key (n ∷ keys) (insert_ascending n keys) (insert-permutation n keys))
    ]

order-permutation : (keys : List ℕ) → IsPermutation keys (in_ascending_order keys)
order-permutation [] = IsPermutation-refl []
order-permutation (key ∷ keys) =
    IsPermutation-trans (key ∷ keys) (key ∷ in_ascending_order keys)
    (insert_ascending key (in_ascending_order keys))
    (IsPermutation-cons key keys (in_ascending_order keys) (order-permutation keys))
    (insert-permutation key (in_ascending_order keys))

-- ---- ascending

and_both : (a b : Bool) → a ≡ true → b ≡ true → (a && b) ≡ true
and_both true b is more = more
and_both false b is more = absurd cc

above : (n m : ℕ) → n < m → nat_lt n m ≡ true
above n m less = grind (arith, nat_tests)

is_above : (n m : ℕ) → nat_lt n m ≡ true → n < m
is_above n m less = grind (arith, nat_tests)

-- a key that isn't listed is none of those that are
neither : (a b : Bool) → (a || b) ≡ false → (a ≡ false) × (b ≡ false)
neither true b is = absurd cc
neither false b is = (refl, is)

differs : (n key : ℕ) → (key == n) ≡ false → n ≡ key → ⊥
differs n key other same = absurd (grind (arith, nat_tests))

apart : (n key : ℕ) (rest : Bool) → ((key == n) || rest) ≡ false
    → (n ≡ key → ⊥) × (rest ≡ false)
apart n key rest is =
    let both = neither (key == n) rest is in
    (differs n key both.0, both.1)

not_over : (n key : ℕ) → nat_le n key ≡ true → (n ≡ key → ⊥) → n < key
not_over n key le other = grind (arith, nat_tests)

over : (n key : ℕ) → nat_le n key ≡ false → key < n
over n key le = grind (arith, nat_tests)

insert-ascends : (least n : ℕ) (keys : List ℕ) → ascends_above least keys ≡ true → least < n
    → list_any (λ m. m == n) keys ≡ false
    → ascends_above least (insert_ascending n keys) ≡ true
insert-ascends least n [] ascends less new = and_both (nat_lt least n) true (above least n less) refl
insert-ascends least n (key ∷ keys) ascends less new =
    let parts = and_parts (nat_lt least key) (ascends_above key keys) ascends in
    let others = apart n key (list_any (λ m. m == n) keys) new in
    elim (nat_le n key) as
    (λ b. nat_le n key ≡ b → ascends_above least
    (cond b (n ∷ key ∷ keys) (key ∷ insert_ascending n keys)) ≡ true) [
      | true ↦ λ le. and_both (nat_lt least n) (nat_lt n key && ascends_above key keys)
          (above least n less)
          (and_both (nat_lt n key) (ascends_above key keys)
          (above n key (not_over n key le others.0)) parts.1)
      | false ↦ λ le. and_both (nat_lt least key) (ascends_above key (insert_ascending n keys))
          parts.0 (insert-ascends key n keys parts.1 (over n key le) others.1)
    ] refl

not_listed : (b : Bool) → not b ≡ true → b ≡ false
not_listed true is = absurd cc
not_listed false is = refl

order-ascends : (keys : List ℕ) → AllByRecursion (λ key. 0 < key) keys → are_distinct keys ≡ true
    → ascends_above 0 (in_ascending_order keys) ≡ true
order-ascends [] each distinct = refl
order-ascends (key ∷ keys) each distinct =
    let parts = and_parts (not (list_any (λ m. m == key) keys)) (are_distinct keys) distinct in
    insert-ascends 0 key (in_ascending_order keys) (order-ascends keys each.1 parts.1) each.0
    (sym (list_any-IsPermutation (λ m. m == key) keys (in_ascending_order keys)
    (order-permutation keys))
    ∙ not_listed (list_any (λ m. m == key) keys) parts.0)

pub ascending_keys : AscendingKeys
ascending_keys keys each distinct = record {
  same = order-permutation keys;
  ascend = order-ascends keys each distinct;
}
