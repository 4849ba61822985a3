-- The first value of a type that takes one key.
use Rattle.std.proofs.Common.{◌≡◌, ◌≢◌, ℕ, Bool, true, false, List, [], ◌∷◌, Option, None, Some, Result, Ok, Err, refl, sym, ap, ◌∙◌, arith, inl, inr, Equal}
use Rattle.std.specs.Prelude.{◌==◌, cond, is_some, option_map}
use Rattle.std.specs.Result.{result_ok}
use Rattle.std.specs.Cmp.{nat_cmp_is}
use Rattle.std.proofs.lemmas.Bool.{cases_eq}
use Rattle.std.proofs.lemmas.Bool.Decides.{nat_tests}
use Rattle.name_spec.specs.Octets.{Fault}
use Rattle.name_spec.specs.Taking.{Taken}
use Rattle.svcb_spec.specs.Params.{Pair, Pairs, value_at}
use Rattle.svcb_spec.specs.Values.{Value}
use Rattle.svcb_spec.specs.ReadingValues.{take_value, whole_taken}
use Rattle.wire_base.specs.declared.errors.ParseError.{ParseError}
use Rattle.svcb_params.specs.Items.{with_item, items, first_value, whole_value_in, typed_at, TakesOnly, IsFirst}

first_with_item : {Seen : Type 0} (read : Result Seen Fault)
    (others : List (Result Seen ParseError)) → first_value (with_item read others) ≡ result_ok read
first_with_item (Ok value) others = refl
first_with_item (Err fault) others = refl

found : (key : ℕ) (pair : Pair) (pairs : Pairs) → pair.0 ≡ key
    → value_at (pair ∷ pairs) key ≡ Some pair.1
found key pair pairs same = rw (← nat_cmp_is key pair.0 Equal (sym same)) refl

not_found : (key : ℕ) (pair : Pair) (pairs : Pairs) → pair.0 ≢ key
    → value_at (pair ∷ pairs) key ≡ value_at pairs key
not_found key pair pairs apart = grind (arith, nat_tests)

module _ {Seen : Type 0} (takes : ℕ → Bool) (reads : ℕ → List ℕ → Result (Taken Seen) Fault)
    (key : ℕ) (only : TakesOnly takes key) where
  first_under : (pairs : Pairs)
      → first_value (items takes reads pairs) ≡ whole_value_in (reads key) (value_at pairs key)
  first_under [] = refl
  first_under (pair ∷ pairs) =
      let others = items takes reads pairs in
      let read = whole_taken pair.1 (reads pair.0 pair.1) in
      elim (cases_eq pair.0 key) [
        | inl same ↦
            let taken : takes pair.0 ≡ true = only pair.0 ∙ grind (arith, nat_tests) in
            ap (λ t. first_value (cond t (with_item read others) others)) taken
            ∙ first_with_item read others
            ∙ ap (λ k. result_ok (whole_taken pair.1 (reads k pair.1))) same
            ∙ sym (ap (whole_value_in (reads key)) (found key pair pairs same))
        | inr apart ↦
            let taken : takes pair.0 ≡ false = only pair.0 ∙ grind (arith, nat_tests) in
            ap (λ t. first_value (cond t (with_item read others) others)) taken
            ∙ first_under pairs
            ∙ sym (ap (whole_value_in (reads key)) (not_found key pair pairs apart))
      ]

-- a value is seen exactly where it is there
seen_there : {V Seen : Type 0} (seen : V → Seen) (value : Option V) (shown : Option Seen)
    → option_map seen value ≡ shown → is_some value ≡ is_some shown
seen_there seen None shown is = ap is_some is
seen_there seen (Some value) shown is = ap is_some is

module _ {V Seen : Type 0} (seen : V → Seen) (takes : ℕ → Bool)
    (reads : ℕ → List ℕ → Result (Taken Seen) Fault) (pairs : Pairs) (value : Option V)
    (first : option_map seen value ≡ first_value (items takes reads pairs)) where
  under : (key : ℕ) → TakesOnly takes key
      → option_map seen value ≡ whole_value_in (reads key) (value_at pairs key)
  under key only = first ∙ first_under takes reads key only pairs

  -- the first value of a type, and of one that takes one key the value under that key
  pub is_first_value : IsFirst seen takes reads pairs value
  is_first_value = record {
    first = first;
    under_key = under;
    is_there = λ key only. seen_there seen value _ (under key only);
  }

same_reading : (reads others : List ℕ → Result (Taken Value) Fault)
    → ((octets : List ℕ) → reads octets ≡ others octets) → (octets : Option (List ℕ))
    → whole_value_in reads octets ≡ whole_value_in others octets
same_reading reads others same None = refl
same_reading reads others same (Some octets) =
    ap (λ read. result_ok (whole_taken octets read)) (same octets)

-- a type that reads octets as the key's type does
pub first_typed : (key : ℕ) (reads : ℕ → List ℕ → Result (Taken Value) Fault)
    → ((octets : List ℕ) → reads key octets ≡ take_value key octets)
    → (pairs : Pairs) → first_value (items (λ k. k == key) reads pairs) ≡ typed_at key pairs
first_typed key reads is pairs =
    first_under (λ k. k == key) reads key (λ k. refl) pairs
    ∙ same_reading (reads key) (take_value key) is (value_at pairs key)
