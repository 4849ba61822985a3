-- Records that are read and made.
use Rattle.std.proofs.Common.{◌≡◌, ℕ, ◌+◌, ◌-◌, ◌<◌, List, length, arith, ap, length-append}
use Rattle.std.proofs.lemmas.Bool.Decides.{nat_tests}
use Rattle.name_spec.specs.Names.{name_wire, AreLabels}
use Rattle.svcb_spec.specs.Params.{Pairs, wire, IsMap}
use Rattle.svcb_spec.specs.Records.{rdata, IsRecord, read}

-- parts of so many octets are a record's
pub is_record : (priority : ℕ) (labels : List (List ℕ)) (pairs : Pairs) → priority < 65536
    → AreLabels 0 labels → IsMap pairs
    → 2 + length (name_wire labels) + length (wire pairs) < 65536
    → IsRecord (record { priority = priority; labels = labels; pairs = pairs })
is_record priority labels pairs small are is_map few = record {
  priority = small;
  labels = are;
  is_map = is_map;
  fits = omega (arith, few, length-append (name_wire labels) (wire pairs));
}

pub length_rdata : (priority : ℕ) (labels : List (List ℕ)) (pairs : Pairs)
    → length (rdata priority labels pairs) ≡ 2 + length (name_wire labels) + length (wire pairs)
length_rdata priority labels pairs = omega (arith, length-append (name_wire labels) (wire pairs))

pub ruleset reading_rules = (is_record, length_rdata, nat_tests)

-- record data that is read to an end is that of so many octets
pub read_here : (message : List ℕ) (start len : ℕ)
    → read message start (start + len - start) ≡ read message start len
read_here message start len = let same : start + len - start ≡ len = omega arith
    in ap (read message start) same
