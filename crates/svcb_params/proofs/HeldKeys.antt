-- Keys that pairs have, by walks over both in ascending order.
use Rattle.std.proofs.Common.{◌≡◌, ℕ, ◌+◌, ◌<◌, ◌≤◌, Bool, true, false, ◌||◌, List, [], ◌∷◌, refl, sym, ap, ◌∙◌, subst, arith}
use Rattle.std.specs.Prelude.{◌==◌, ◌&&◌, nat_lt}
use Rattle.std.specs.List.{list_all}
use Rattle.std.proofs.lemmas.Bool.{and_left, and_right, and_parts, ltb-true}
use Rattle.std.proofs.lemmas.Bool.Decides.{nat_tests}
use Rattle.svcb_spec.specs.Params.{Pairs, IsMap, Ascends}
use Rattle.svcb_pairs.specs.Parameters.{pairs_in, IsParameters, IsFirstPair}
use Rattle.svcb_spec.specs.PrintedParams.{holds_key, ascends_above}

-- ---- a walk over pairs

-- no pair has a key below the least
none_below : (pairs : Pairs) (least key : ℕ) → Ascends least pairs → key < least
    → holds_key pairs key ≡ false
none_below [] least key up low = refl
none_below (pair ∷ pairs) least key up low =
    let apart : (pair.0 == key) ≡ false = grind (arith, nat_tests, up.0) in
    ap (λ b. b || holds_key pairs key) apart
    ∙ none_below pairs (pair.0 + 1) key up.3 (omega (arith, up.0))

module _ (octets : List ℕ) (number : ℕ) (held behind : List ℕ)
    (first : IsFirstPair octets number held behind) where
  others_above : IsParameters octets → Ascends (number + 1) (pairs_in behind)
  others_above are = (subst IsMap first.pairs are.is_map).3

  -- no pair has a key below that of the first
  pub not_here : (key : ℕ) → IsParameters octets → key < number
      → holds_key (pairs_in octets) key ≡ false
  not_here key are up =
      let apart : (number == key) ≡ false = grind (arith, nat_tests) in
      let none : holds_key (pairs_in behind) key ≡ false =
      none_below (pairs_in behind) (number + 1) key (others_above are) (omega arith) in
      ap (λ ps. holds_key ps key) first.pairs
      ∙ ap (λ b. b || holds_key (pairs_in behind) key) apart ∙ none

  -- the first pair has its key
  pub is_here : (key : ℕ) → number ≡ key → holds_key (pairs_in octets) key ≡ true
  is_here key is =
      let same : (number == key) ≡ true = grind (arith, nat_tests) in
      ap (λ ps. holds_key ps key) first.pairs ∙ ap (λ b. b || holds_key (pairs_in behind) key) same

  -- the others have what is above its key
  pub passed_by : (above : ℕ) → number < above
      → holds_key (pairs_in behind) above ≡ holds_key (pairs_in octets) above
  passed_by above up =
      let apart : (number == above) ≡ false = grind (arith, nat_tests) in
      sym (ap (λ ps. holds_key ps above) first.pairs
      ∙ ap (λ b. b || holds_key (pairs_in behind) above) apart)

pub ruleset passing_rules = (not_here, is_here, passed_by)

-- ---- a walk over keys

-- keys ascend from above a number, and pairs have each
abbrev pub are_there_above : ℕ → Pairs → List ℕ → Bool
are_there_above least pairs keys = ascends_above least keys && list_all (holds_key pairs) keys

-- a key that isn't above the one before
pub not_above : (least key : ℕ) (keys : List ℕ) (pairs : Pairs) → key ≤ least
    → are_there_above least pairs (key ∷ keys) ≡ false
not_above least key keys pairs low =
    let low : nat_lt least key ≡ false = grind (arith, nat_tests) in
    and_left _ _ (ap (λ b. b && ascends_above key keys) low)

-- a key that no pair has
pub not_there : (least key : ℕ) (keys : List ℕ) (pairs : Pairs) → holds_key pairs key ≡ false
    → are_there_above least pairs (key ∷ keys) ≡ false
not_there least key keys pairs none =
    and_right _ _ (ap (λ b. b && list_all (holds_key pairs) keys) none)

module _ (pairs rest : Pairs) where
  -- keys above a number are looked up in the pairs behind it
  behind_it : (key : ℕ) (keys : List ℕ)
      → ((above : ℕ) → key < above → holds_key rest above ≡ holds_key pairs above)
      → ascends_above key keys ≡ true
      → list_all (holds_key pairs) keys ≡ list_all (holds_key rest) keys
  behind_it key [] same up = refl
  behind_it key (next ∷ keys) same up =
      let parts = and_parts (nat_lt key next) (ascends_above next keys) up in
      let is_above : key < next = ltb-true key next parts.0 in
      ap (λ b. b && list_all (holds_key pairs) keys) (sym (same next is_above))
      ∙ ap (λ b. holds_key rest next && b)
      (behind_it next keys (λ above over. same above (omega (arith, is_above, over))) parts.1)

  one_there : (key : ℕ) (keys : List ℕ) (b : Bool) → ascends_above key keys ≡ b
      → ((above : ℕ) → key < above → holds_key rest above ≡ holds_key pairs above)
      → (b && list_all (holds_key pairs) keys) ≡ (b && list_all (holds_key rest) keys)
  one_there key keys true up same = behind_it key keys same up
  one_there key keys false up same = refl

  -- a key that is above the one before, and that a pair has
  pub next_there : (least key : ℕ) (keys : List ℕ) → least < key → holds_key pairs key ≡ true
      → ((above : ℕ) → key < above → holds_key rest above ≡ holds_key pairs above)
      → are_there_above least pairs (key ∷ keys) ≡ are_there_above key rest keys
  next_there least key keys up found same =
      let is_up : nat_lt least key ≡ true = grind (arith, nat_tests) in
      ap (λ b. (b && ascends_above key keys) && list_all (holds_key pairs) (key ∷ keys)) is_up
      ∙ ap (λ b. ascends_above key keys && (b && list_all (holds_key pairs) keys)) found
      ∙ one_there key keys (ascends_above key keys) refl same

pub ruleset there_rules = (not_above, not_there, next_there)
