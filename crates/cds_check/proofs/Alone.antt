-- The first element without a partner.
use Rattle.std.proofs.Common.{◌≡◌, ℕ, zero, suc, ◌+◌, ◌<◌, ◌≤◌, Bool, true, false, cond, not, Some, None, List, [], ◌∷◌, length, get_or, take, map, refl, ap, arith, nat_lt}
use Rattle.std.specs.List.{position, position_or_len, AllPass}
use Rattle.std.proofs.lemmas.Bool.Decides.{nat_tests}
use Rattle.std.proofs.lemmas.List.Quantifiers.{position-Some}
use Rattle.std.proofs.lemmas.List.Sums.{position_or_len_is, fails_before_first}
use Rattle.cds_check.specs.Verdicts.{IsFirstAlone}

-- a part that is all
pub all_taken : {A : Type 0} (n : ℕ) (xs : List A) → length xs ≤ n → take n xs ≡ xs
all_taken zero [] h = refl
all_taken zero (x ∷ xs) h = absurd (omega arith)
all_taken (suc n) [] h = refl
all_taken (suc n) (x ∷ xs) h = ap (λ rest. x ∷ rest) (all_taken n xs (omega arith))

pub at_place : (place i len : ℕ) → place ≡ i → i < len
    → cond (nat_lt place len) (Some place) None ≡ Some i
at_place place i len is within = grind (arith, nat_tests)

at_len : (place len : ℕ) → place ≡ len → cond (nat_lt place len) (Some place) None ≡ None
at_len place len is = grind (arith, nat_tests)

alike_places : {A : Type 0} (f g : A → Bool) (xs : List A)
    → ((i : ℕ) (d : A) → i < length xs → f (get_or xs i d) ≡ g (get_or xs i d))
    → position_or_len (λ x. not (f x)) xs ≡ position_or_len (λ x. not (g x)) xs
alike_places f g [] h = refl
alike_places f g (x ∷ xs) h =
    let first : f x ≡ g x = h zero x (omega arith) in
    let rest : position_or_len (λ y. not (f y)) xs ≡ position_or_len (λ y. not (g y)) xs =
    alike_places f g xs (λ i d within. h (suc i) d (omega (arith, within))) in
    λ i. cond (not (not (first i))) (1 + rest i) 0

-- by a test that answers alike for each of them
pub position_alike : {A : Type 0} (f g : A → Bool) (xs : List A)
    → ((i : ℕ) (d : A) → i < length xs → f (get_or xs i d) ≡ g (get_or xs i d))
    → position (λ x. not (f x)) xs ≡ position (λ x. not (g x)) xs
position_alike f g xs h =
    let place = alike_places f g xs h in
    λ i. cond (nat_lt (place i) (length xs)) (Some (place i)) None

place_map : {A : Type 0} (has : A → Bool) (xs : List A)
    → position_or_len not (map has xs) ≡ position_or_len (λ x. not (has x)) xs
place_map has [] = refl
place_map has (x ∷ xs) = ap (λ n. cond (not (not (has x))) (1 + n) 0) (place_map has xs)

len_map : {A : Type 0} (has : A → Bool) (xs : List A) → length (map has xs) ≡ length xs
len_map has [] = refl
len_map has (x ∷ xs) = ap suc (len_map has xs)

-- the first mark that is not set
pub position_map : {A : Type 0} (has : A → Bool) (xs : List A)
    → position not (map has xs) ≡ position (λ x. not (has x)) xs
position_map has xs =
    let place = place_map has xs in let len = len_map has xs in
    λ i. cond (nat_lt (place i) (len i)) (Some (place i)) None

-- ---- what the answer says

not_true : (b : Bool) → not b ≡ true → b ≡ false
not_true true h = cc
not_true false h = refl

not_false : (b : Bool) → not b ≡ false → b ≡ true
not_false true h = refl
not_false false h = cc

pub alone_at : {A : Type 0} (has : A → Bool) (xs : List A) (i : ℕ)
    → position (λ x. not (has x)) xs ≡ Some i → IsFirstAlone has xs i
alone_at has [] i h = cc
alone_at has (x ∷ xs) i h =
    let found = λ (d : _). position-Some (λ x. not (has x)) (x ∷ xs) i d h in
    record {
      within = (found x).0;
      alone = λ d. not_true _ (found d).1;
      before = λ k d low high. not_false _ ((found d).2 k high);
    }

not_some : (place len : ℕ) → cond (nat_lt place len) (Some place) None ≡ None → len ≤ place
not_some place len h = grind (arith, nat_tests)

pub all_partners : {A : Type 0} (has : A → Bool) (xs : List A)
    → position (λ x. not (has x)) xs ≡ None → AllPass has xs
all_partners has xs h =
    let long : length xs ≤ position_or_len (λ x. not (has x)) xs = not_some _ _ h in
    λ k d within. not_false _
    (fails_before_first (λ x. not (has x)) xs k d (omega (arith, long, within)))

true_not : (b : Bool) → b ≡ false → not b ≡ true
true_not true h = cc
true_not false h = refl

false_not : (b : Bool) → b ≡ true → not b ≡ false
false_not true h = refl
false_not false h = cc

pub place_of_alone : {A : Type 0} (has : A → Bool) (xs : List A) (i : ℕ) → IsFirstAlone has xs i
    → position (λ x. not (has x)) xs ≡ Some i
place_of_alone has [] i h = absurd (omega (arith, h.within))
place_of_alone has (x ∷ xs) i h =
    at_place _ i _
    (position_or_len_is (λ x. not (has x)) (x ∷ xs) i x (omega (arith, h.within))
    (λ k below. false_not _ (h.before k x (omega arith) below))
    (λ within. true_not _ (h.alone x)))
    h.within

pub no_place : {A : Type 0} (has : A → Bool) (xs : List A) → AllPass has xs
    → position (λ x. not (has x)) xs ≡ None
no_place has [] h = refl
no_place has (x ∷ xs) h =
    at_len _ _
    (position_or_len_is (λ x. not (has x)) (x ∷ xs) (length (x ∷ xs)) x (omega arith)
    (λ k below. false_not _ (h k x below)) (λ within. absurd (omega (arith, within))))
