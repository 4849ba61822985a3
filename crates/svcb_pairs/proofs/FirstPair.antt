-- The first pair of parameters, and the others. Offered to the crates above.
use Rattle.std.proofs.Common.{◌≡◌, ℕ, ◌+◌, ◌*◌, ◌<◌, ◌≤◌, List, [], ◌∷◌, ◌++◌, length, drop, false, Err, refl, sym, ap, ◌∙◌, arith, length-append, append_assoc}
use Rattle.std.specs.Prelude.{nat_lt, slice_range}
use Rattle.std.proofs.lemmas.List.{append-nil}
use Rattle.std.proofs.lemmas.Bool.Decides.{nat_tests}
use Rattle.name_spec.specs.Octets.{Short, be2, number_at}
use Rattle.svcb_spec.specs.Params.{Pair, Pairs, pairs_wire, IsMap}
use Rattle.svcb_spec.proofs.WireLaws.{Ascends-lower}
use Rattle.svcb_spec.proofs.PairsBack.{drop-behind, slice_range-front, number_at-be2}
use Rattle.svcb_value.specs.Parameters.{take_param, BeginsParameter}
use Rattle.svcb_pairs.specs.Parameters.{pairs_in, IsParameters, IsFirstPair}
use Rattle.svcb_pairs.proofs.Reading.{octets_are_wire, pairs_in-back, wire_parameters}

-- what stands where in the octets of a pair and further ones
record StandsFirst (octets : List ℕ) (pair : Pair) (pairs : Pairs) : Type 0 where
  key : number_at octets 0 ≡ pair.0
  len : number_at octets 2 ≡ length pair.1
  value : slice_range octets 4 (4 + length pair.1) ≡ pair.1
  rest : slice_range octets (4 + length pair.1) (length octets) ≡ pairs_wire pairs
  long : length octets ≡ 4 + length pair.1 + length (pairs_wire pairs)

stands_first : (octets : List ℕ) (pair : Pair) (pairs : Pairs) → octets ≡ pairs_wire (pair ∷ pairs)
    → StandsFirst octets pair pairs
stands_first octets pair pairs is =
    let key = pair.0 in
    let value = pair.1 in
    let rest : List ℕ = pairs_wire pairs in
    let front : List ℕ = be2 key ++ be2 (length value) in
    let all : drop 0 octets ≡ front ++ (value ++ rest) = is ∙ append_assoc front value rest in
    let at_len : drop 2 octets ≡ be2 (length value) ++ (value ++ rest) =
    drop-behind octets (be2 key) (be2 (length value) ++ (value ++ rest)) 0 all in
    let at_value : drop 4 octets ≡ value ++ rest = drop-behind octets front (value ++ rest) 0 all in
    let at_rest : drop (4 + length value) octets ≡ rest = drop-behind octets value rest 4 at_value
    in
    let long : length octets ≡ 4 + length value + length rest =
    omega (arith, ap length is, length-append (front ++ value) rest) in
    record {
      key = number_at-be2 octets (be2 (length value) ++ (value ++ rest)) key 0 all;
      len = number_at-be2 octets (value ++ rest) (length value) 2 at_len;
      value = slice_range-front octets value rest 4 (4 + length value) refl at_value;
      rest = slice_range-front octets rest [] (4 + length value) (length octets) long
          (at_rest ∙ sym (append-nil rest));
      long = long;
    }

-- the pair that octets begin with is the first of theirs, and the rest are parameters
record SplitsOff (octets : List ℕ) (pairs : Pairs) (number : ℕ)
    (held behind : List ℕ) : Type 0 where
  first : pairs ≡ (number, held) ∷ pairs_in behind
  shorter : length behind < length octets
  rest : IsParameters behind

module _ (octets : List ℕ) (number : ℕ) (held behind : List ℕ) where
  splits_off : (pairs : Pairs) → octets ≡ pairs_wire pairs → IsMap pairs
      → BeginsParameter octets number held behind → SplitsOff octets pairs number held behind
  splits_off [] is is_map begins = absurd (omega (arith, ap length is, begins.within))
  splits_off (pair ∷ pairs) is is_map begins =
      let first = stands_first octets pair pairs is in
      let len : length held ≡ length pair.1 = begins.len ∙ first.len in
      let value : held ≡ pair.1 =
      begins.value ∙ ap (λ n. slice_range octets 4 (4 + n)) len ∙ first.value in
      let rest : behind ≡ pairs_wire pairs =
      begins.rest ∙ ap (λ n. slice_range octets (4 + n) (length octets)) len ∙ first.rest in
      let up : IsMap pairs = Ascends-lower (pair.0 + 1) 0 pairs (omega arith) is_map.3 in
      record {
        first = ap (λ k. (k, pair.1) ∷ pairs) (sym (begins.key ∙ first.key))
            ∙ ap (λ v. (number, v) ∷ pairs) (sym value)
            ∙ ap (λ ps. (number, held) ∷ ps) (sym (pairs_in-back behind pairs rest up));
        shorter = omega (arith, first.long, ap length rest);
        rest = wire_parameters behind pairs rest up;
      }

  module _ (are : IsParameters octets) (begins : BeginsParameter octets number held behind) where
    known : SplitsOff octets (pairs_in octets) number held behind
    known = splits_off (pairs_in octets) (octets_are_wire octets are) are.is_map begins

    pub is_first : IsFirstPair octets number held behind
    is_first = record {
      pairs = known.first;
      shorter = known.shorter;
      in_range = begins.in_range;
      fits = begins.fits;
    }

    pub rest_are : IsParameters behind
    rest_are = known.rest

none_there : (octets : List ℕ) (pairs : Pairs) → octets ≡ pairs_wire pairs
    → take_param octets ≡ Err Short → pairs ≡ []
none_there octets [] is short = refl
none_there octets (pair ∷ pairs) is short =
    let first = stands_first octets pair pairs is in
    let head : nat_lt (length octets) 4 ≡ false = grind (arith, nat_tests, first.long) in
    let value : nat_lt (length octets) (4 + number_at octets 2) ≡ false =
    grind (arith, nat_tests, first.long, first.len) in
    absurd (let no = rw (head, value) at short in cc)

-- where no pair is whole, there is none
pub no_pair : (octets : List ℕ) → IsParameters octets → take_param octets ≡ Err Short
    → pairs_in octets ≡ []
no_pair octets are short = none_there octets (pairs_in octets) (octets_are_wire octets are) short

-- each pair has at least four octets
pub few_pairs : (pairs : Pairs) → 4 * length pairs ≤ length (pairs_wire pairs)
few_pairs [] = omega arith
few_pairs (pair ∷ pairs) =
    omega (
      arith,
      few_pairs pairs,
      length-append (be2 pair.0 ++ be2 (length pair.1) ++ pair.1)
          (pairs_wire pairs),
    )

-- for the function that splits the first pair off
pub ruleset first_pair_rules = (is_first, rest_are, no_pair)
