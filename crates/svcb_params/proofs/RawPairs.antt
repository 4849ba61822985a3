-- The pairs that an iterator over all pairs has left, by the values that it gives.
use Rattle.std.proofs.Common.{◌≡◌, [], ◌∷◌, refl, ap, ◌∙◌}
use Rattle.svcb_spec.specs.Params.{Pairs}
use Rattle.svcb_spec.specs.Values.{Value, Unknown, key_of, encode}
use Rattle.svcb_params.specs.Items.{raw_values}

same_pairs : (old new : Pairs) → raw_values old ≡ raw_values new → old ≡ new
same_pairs [] [] is = refl
same_pairs [] (pair ∷ new) is = cc
same_pairs (pair ∷ old) [] is = cc
same_pairs (pair ∷ old) (next ∷ new) is =
    let key : pair.0 ≡ next.0 = cc in
    let octets : pair.1 ≡ next.1 = cc in
    let rest : raw_values old ≡ raw_values new = cc in
    ap (λ k. (k, pair.1) ∷ old) key ∙ ap (λ v. (next.0, v) ∷ old) octets
    ∙ ap (λ ps. next ∷ ps) (same_pairs old new rest)

-- the first value is that of the first pair
pub first_raw : (old new : Pairs) (value : Value) → raw_values old ≡ value ∷ raw_values new
    → old ≡ (key_of value, encode value) ∷ new
first_raw [] new value is = cc
first_raw (pair ∷ old) new value is =
    let first : Unknown pair.0 pair.1 ≡ value = cc in
    let rest : raw_values old ≡ raw_values new = cc in
    ap (λ v. (key_of v, encode v) ∷ old) first
    ∙ ap (λ ps. (key_of value, encode value) ∷ ps) (same_pairs old new rest)

-- where no value is left, no pair is
pub no_raw : (pairs : Pairs) → raw_values pairs ≡ [] → pairs ≡ []
no_raw [] is = refl
no_raw (pair ∷ pairs) is = cc

pub ruleset raw_rules = (first_raw, no_raw)
