-- Parameters that were read from octets. Offered to the crates above.
use Rattle.std.proofs.Common.{◌≡◌, ℕ, ◌+◌, ◌<◌, subst, List, [], ◌∷◌, length, None, Result, Ok, Err, refl, sym, ap, ◌∙◌, arith}
use Rattle.std.specs.Prelude.{◌==◌, slice_index, slice_range}
use Rattle.std.specs.Result.{result_err, result_unwrap_or}
use Rattle.std.proofs.lemmas.List.{append-nil}
use Rattle.std.proofs.lemmas.Bool.Decides.{nat_tests}
use Rattle.name_spec.specs.Octets.{Fault}
use Rattle.svcb_spec.specs.Params.{Pairs, pairs_at, pairs_wire, IsMap}
use Rattle.svcb_spec.proofs.PartLaws.{pairs_at-part}
use Rattle.svcb_spec.proofs.WireLaws.{wire-pairs}
use Rattle.svcb_spec.proofs.PairsBack.{pairs_at-back, wire-pairs_at}
use Rattle.svcb_pairs.specs.Parameters.{read_pairs, pairs_in, IsParameters}

-- what has no fault was read
no_fault : (read : Result Pairs Fault) → result_err read ≡ None
    → read ≡ Ok (result_unwrap_or read [])
no_fault (Ok pairs) none = refl
no_fault (Err fault) none = absurd cc

pub are_parameters : (octets : List ℕ) → ((i : ℕ) → slice_index octets i < 256)
    → result_err (read_pairs octets) ≡ None → IsParameters octets
are_parameters octets small none =
    let read : read_pairs octets ≡ Ok (pairs_in octets) = no_fault (read_pairs octets) none in
    let known = wire-pairs_at octets (pairs_in octets) small read in
    record { read = read; is_map = known.0; wire = known.1 }

-- parameters are the octets of their pairs
pub octets_are_wire : (octets : List ℕ) → IsParameters octets
    → octets ≡ pairs_wire (pairs_in octets)
octets_are_wire octets are = sym are.wire ∙ wire-pairs (pairs_in octets) are.is_map

-- a map is read from the octets of its pairs
pub read_pairs-back : (octets : List ℕ) (pairs : Pairs) → octets ≡ pairs_wire pairs → IsMap pairs
    → read_pairs octets ≡ Ok pairs
read_pairs-back octets pairs is is_map =
    let up : length octets ≡ 0 + length (pairs_wire pairs) = omega (arith, ap length is) in
    pairs_at-back octets [] pairs (length octets) 0 None (is ∙ sym (append-nil (pairs_wire pairs)))
    up is_map

pub pairs_in-back : (octets : List ℕ) (pairs : Pairs) → octets ≡ pairs_wire pairs → IsMap pairs
    → pairs_in octets ≡ pairs
pairs_in-back octets pairs is is_map =
    ap (λ read. result_unwrap_or read []) (read_pairs-back octets pairs is is_map)

-- the octets of a map's pairs are parameters
pub wire_parameters : (octets : List ℕ) (pairs : Pairs) → octets ≡ pairs_wire pairs → IsMap pairs
    → IsParameters octets
wire_parameters octets pairs is is_map =
    let same : pairs ≡ pairs_in octets = sym (pairs_in-back octets pairs is is_map) in
    record {
      read = read_pairs-back octets pairs is is_map ∙ ap Ok same;
      is_map = subst IsMap same is_map;
      wire = wire-pairs (pairs_in octets) (subst IsMap same is_map) ∙ ap pairs_wire (sym same)
          ∙ sym is;
    }

-- no octets are no pairs
pub no_octets : (octets : List ℕ) → octets ≡ [] → pairs_in octets ≡ []
no_octets octets is = pairs_in-back octets [] is tt

pub no_parameters : (octets : List ℕ) → octets ≡ [] → IsParameters octets
no_parameters octets is = wire_parameters octets [] is tt

some_octets : (octets : List ℕ) (pairs : Pairs) → octets ≡ pairs_wire pairs
    → (length octets == 0) ≡ (length pairs == 0)
some_octets octets [] is = ap (λ xs. length xs == 0) is
some_octets octets (pair ∷ pairs) is =
    let some : length octets ≡ length (pairs_wire (pair ∷ pairs)) = ap length is
    in grind (arith, nat_tests)

-- there are octets where there are pairs
pub is_empty-pairs : (octets : List ℕ) → IsParameters octets
    → (length octets == 0) ≡ (length (pairs_in octets) == 0)
is_empty-pairs octets are = some_octets octets (pairs_in octets) (octets_are_wire octets are)

-- the octets up to the end of the data are read as the data is
pub part_read : (message : List ℕ) (pos end : ℕ) (octets : List ℕ)
    → octets ≡ slice_range message pos end → pos + length octets ≡ end
    → read_pairs octets ≡ pairs_at message end pos None
part_read message pos end octets is to_end =
    let at_end : pos + length octets ≡ end = omega arith in
    let at_pos : pos + 0 ≡ pos = omega arith in
    let part = pairs_at-part message pos (length octets) 0 None (omega arith) in
    cc

-- for the functions of owned parameters and of views
pub ruleset reading_rules = (no_octets, no_parameters, is_empty-pairs)
