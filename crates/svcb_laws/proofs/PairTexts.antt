-- Pairs of a map are read back from their texts.
use Rattle.std.proofs.Common.{◌≡◌, ℕ, zero, suc, ◌+◌, ◌<◌, true, false, cond, Contains, List, [], ◌∷◌, length, refl, sym, arith, subst}
use Rattle.std.specs.List.{AllByRecursion}
use Rattle.name_spec.specs.AddressLaws.{AreOctets}
use Rattle.svcb_spec.specs.Params.{Pair, Pairs, Ascends}
use Rattle.svcb_spec.specs.ReadingValues.{value_in}
use Rattle.svcb_spec.specs.Values.{Value, Unknown, key_of, encode, IsValue}
use Rattle.svcb_spec.proofs.ValueLaws.{IsIn, values_in_octets}
use Rattle.svcb_spec.specs.PrintedValues.{value_printed, opaque_text}
use Rattle.svcb_spec.specs.PrintedParams.{has_own_text, pair_printed}
use Rattle.svcb_laws.specs.ParamTextLaws.{IsValueText, HaveOctets, PairReadBack}
use Rattle.svcb_laws.proofs.OpaqueTexts.{opaque_again}
use Rattle.svcb_laws.proofs.ValuesAgain.{typed_again}

-- the value whose text a pair's is: that of the type, where it has a text of its own
abbrev pub pair_value : Pairs → Pair → Value
pair_value pairs pair =
    cond (has_own_text pairs (value_in pair.0 pair.1)) (value_in pair.0 pair.1)
    (Unknown pair.0 pair.1)

-- the text spells the value, which has the pair's key and octets
pub record IsPairText (text : List ℕ) (pair : Pair) (value : Value) : Type 0 where
  pub spelled : IsValueText text value
  pub is_value : IsValue value
  pub key : key_of value ≡ pair.0
  pub octets : encode value ≡ pair.1

each_octet : (octets : List ℕ) → AreOctets octets → AllByRecursion (λ octet. octet < 256) octets
each_octet [] are = tt
each_octet (c ∷ octets) are = (are.0, each_octet octets are.1)

-- the pair is one of a map
pub record IsPairOfMap (pair : Pair) : Type 0 where
  pub key : pair.0 < 65536
  pub few : length pair.1 < 65536
  pub octets : AreOctets pair.1

pub pair_value_again : (pairs : Pairs) (pair : Pair) → IsPairOfMap pair
    → IsPairText (pair_printed pairs pair) pair (pair_value pairs pair)
pair_value_again pairs pair is =
    let found : IsIn pair.0 pair.1 (value_in pair.0 pair.1) =
    values_in_octets pair.0 pair.1 is.key is.few (each_octet pair.1 is.octets) in
    elim (has_own_text pairs (value_in pair.0 pair.1)) as
    (λ own. has_own_text pairs (value_in pair.0 pair.1) ≡ own
    → IsPairText (cond own (value_printed (value_in pair.0 pair.1)) (opaque_text pair.0 pair.1))
    pair (cond own (value_in pair.0 pair.1) (Unknown pair.0 pair.1))) [
      | true ↦ λ own. record {
        spelled = typed_again pairs (value_in pair.0 pair.1) found.0
            (subst AreOctets (sym found.2) is.octets) own;
        is_value = found.0;
        key = found.1;
        octets = found.2;
      }
      | false ↦ λ none. record {
        spelled = opaque_again pair.0 pair.1 is.key is.octets is.few;
        is_value = (is.key, is.few);
        key = refl;
        octets = refl;
      }
    ] refl

-- each pair of a map is such a pair
pair-Contains : (least : ℕ) (pairs : Pairs) (pair : Pair) → Ascends least pairs → HaveOctets pairs
    → Contains pairs pair → IsPairOfMap pair
pair-Contains least [] pair ascends octets (k, below, is) = absurd (omega (arith, below))
pair-Contains least (first ∷ pairs) pair ascends octets (zero, below, is) =
    subst IsPairOfMap is (record { key = ascends.1; few = ascends.2; octets = octets.0 })
pair-Contains least (first ∷ pairs) pair ascends octets (suc k, below, is) =
    pair-Contains (first.0 + 1) pairs pair ascends.3 octets.1 (k, omega (arith, below), is)

pub pair_again : PairReadBack
pair_again pairs pair is_map octets contains =
    let back = pair_value_again pairs pair (pair-Contains 0 pairs pair is_map octets contains) in
    (pair_value pairs pair, back.spelled, back.key, back.octets)
