-- What octets are read as data, and what data is composed to, are octets.
use Rattle.std.proofs.Common.{ℕ, zero, suc, ◌+◌, ◌-◌, ◌<◌, List, [], ◌∷◌, ◌++◌, length, take, drop, sym, subst, arith}
use Rattle.std.specs.Prelude.{slice_index, slice_range}
use Rattle.std.specs.List.{flat_map}
use Rattle.name_spec.specs.Octets.{be2}
use Rattle.name_spec.specs.Names.{name_wire, AreLabels}
use Rattle.name_spec.specs.AddressLaws.{AreOctets}
use Rattle.svcb_spec.specs.Params.{Pairs, Ascends, pairs_wire, wire}
use Rattle.svcb_spec.specs.Records.{Record, rdata}
use Rattle.svcb_spec.proofs.WireLaws.{wire-pairs}
use Rattle.svcb_laws.specs.ParamTextLaws.{HaveOctets}
use Rattle.svcb_laws.specs.DataTextLaws.{IsRecordOfOctets}
use Rattle.svcb_laws.proofs.DataOctets.{octets_parts, octets_joined}

-- what is known of a list's numbers, place by place
abbrev pub AreBelow256 : List ℕ → Type 0
AreBelow256 octets = (i : ℕ) → slice_index octets i < 256

pub octets_from : (octets : List ℕ) → AreBelow256 octets → AreOctets octets
octets_from [] small = tt
octets_from (octet ∷ octets) small = (small 0, octets_from octets (λ i. small (suc i)))

octets_drop : (n : ℕ) (octets : List ℕ) → AreOctets octets → AreOctets (drop n octets)
octets_drop zero octets are = are
octets_drop (suc n) [] are = tt
octets_drop (suc n) (octet ∷ octets) are = octets_drop n octets are.1

octets_take : (n : ℕ) (octets : List ℕ) → AreOctets octets → AreOctets (take n octets)
octets_take zero octets are = tt
octets_take (suc n) [] are = tt
octets_take (suc n) (octet ∷ octets) are = (are.0, octets_take n octets are.1)

-- the octets of labels, joined
abbrev joined : List (List ℕ) → List ℕ
joined labels = flat_map (λ label. label) labels

pub label_octets : (message : List ℕ) (from to : ℕ) → AreOctets message
    → AreOctets (slice_range message from to)
label_octets message from to are =
    octets_take (to - from) (drop from message) (octets_drop from message are)

-- ---- the octets of data

small_from : (octets : List ℕ) → AreOctets octets → AreBelow256 octets
small_from [] are i = omega arith
small_from (octet ∷ octets) are zero = are.0
small_from (octet ∷ octets) are (suc i) = small_from octets are.1 i

be2_octets : (n : ℕ) → n < 65536 → AreOctets (be2 n)
be2_octets n small = (omega arith, (omega arith, tt))

wire_octets : (labels : List (List ℕ)) (octets : ℕ) → AreLabels octets labels
    → AreOctets (joined labels) → AreOctets (name_wire labels)
wire_octets [] octets are_labels are = (omega arith, tt)
wire_octets (label ∷ labels) octets are_labels are =
    let parts = octets_parts label (joined labels) are in
    let small : length label < 64 = are_labels.1 in (
      omega arith,
      octets_joined label (name_wire labels) parts.0
          (wire_octets labels _ are_labels.3 parts.1),
    )

pairs_octets : (pairs : Pairs) (least : ℕ) → Ascends least pairs → HaveOctets pairs
    → AreOctets (pairs_wire pairs)
pairs_octets [] least up are = tt
pairs_octets (pair ∷ pairs) least up are =
    let key = be2_octets pair.0 up.1 in
    let len = be2_octets (length pair.1) up.2 in
    octets_joined (be2 pair.0 ++ be2 (length pair.1) ++ pair.1) (pairs_wire pairs)
    (octets_joined (be2 pair.0 ++ be2 (length pair.1)) pair.1
    (octets_joined (be2 pair.0) (be2 (length pair.1)) key len) are.0)
    (pairs_octets pairs (pair.0 + 1) up.3 are.1)

pub rdata_small : (found : Record) → IsRecordOfOctets found
    → AreBelow256 (rdata found.priority found.labels found.pairs)
rdata_small found is =
    let record_is = is.is_record in
    let pairs = subst AreOctets (sym (wire-pairs found.pairs record_is.is_map))
    (pairs_octets found.pairs 0 record_is.is_map is.values) in
    let front = be2 found.priority ++ name_wire found.labels in
    small_from (front ++ wire found.pairs)
    (octets_joined front (wire found.pairs)
    (octets_joined (be2 found.priority) (name_wire found.labels)
    (be2_octets found.priority record_is.priority)
    (wire_octets found.labels 0 record_is.labels is.labels)) pairs)
