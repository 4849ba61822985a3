-- Maps of parameters that are built and written.
use Rattle.std.proofs.Common.{◌≡◌, ℕ, ◌+◌, ◌<◌, ◌≤◌, ◌^◌, List, [], ◌∷◌, length, None, sym, ap, arith}
use Rattle.std.specs.Ordering.{nat_cmp}
use Rattle.std.specs.BTreeMap.{insert_entry}
use Rattle.svcb_spec.specs.Params.{Pairs, value_at, Ascends}
use Rattle.svcb_spec.proofs.WireLaws.{IsMap-insert, length-wire-insert, wire-pairs}
use Rattle.svcb_pairs.specs.BuilderState.{IsBuilderState}

-- no pairs
pub no_pairs : (pairs : Pairs) (limit : ℕ) → pairs ≡ [] → limit < 2 ^ 31
    → IsBuilderState pairs 0 limit
no_pairs pairs limit none in_range =
    rw none
    (record {
      is_map = tt;
      len_is = sym (ap length (wire-pairs [] tt));
      within = omega arith;
      in_range = in_range;
    })

-- each value has a length of 16 bits
abbrev pub AreShort : Pairs → Type 0
AreShort [] = Unit {0}
AreShort (pair ∷ pairs) = (length pair.1 < 65536) × AreShort pairs

pub AreShort-ascend : (least : ℕ) (pairs : Pairs) → Ascends least pairs → AreShort pairs
AreShort-ascend least [] up = tt
AreShort-ascend least (pair ∷ pairs) up = (up.2, AreShort-ascend (pair.0 + 1) pairs up.3)

-- a new pair within the limit
pub is_grown : (pairs pairs' : Pairs) (len limit key grown : ℕ) (value : List ℕ)
    → IsBuilderState pairs len limit → key < 65536 → length value < 65536
    → value_at pairs key ≡ None
    → pairs' ≡ insert_entry nat_cmp pairs key value → grown ≡ len + 4 + length value
    → grown ≤ limit → IsBuilderState pairs' grown limit
is_grown pairs pairs' len limit key grown value builder in_range fits absent is counted within =
    let longer = length-wire-insert pairs key value builder.is_map in_range fits absent in
    rw is
    (record {
      is_map = IsMap-insert pairs key value builder.is_map in_range fits;
      len_is = omega (arith, longer, builder.len_is);
      within = within;
      in_range = builder.in_range;
    })
