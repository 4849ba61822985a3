-- Service parameters (RFC 9460, section 2.2): a map from keys to octets, as the list of its pairs
-- by ascending keys.
use Rattle.std.specs.Prelude.{ℕ, zero, suc, ◌+◌, ◌-◌, ◌<◌, ◌≤◌, Bool, true, not, List, [], ◌∷◌, ◌++◌, length, Option, None, Some, Result, Ok, Err, slice_range, nat_lt, ◌==◌, if◌then◌else◌}
use Rattle.std.specs.Ordering.{nat_cmp}
use Rattle.std.specs.BTreeMap.{is_at}
use Rattle.std.specs.Map.{lookup}
use Rattle.name_spec.specs.Octets.{Fault, Short, Form, be2, number_at}

-- a key, and the octets of its value
abbrev pub Pair : Type 0
Pair = ℕ × List ℕ

abbrev pub Pairs : Type 0
Pairs = List Pair

-- the octets under a key
abbrev pub value_at : Pairs → ℕ → Option (List ℕ)
value_at pairs key = lookup (is_at (nat_cmp key)) pairs

-- a pair in front of the pairs that follow it
abbrev pub with_pair : Pair → Result Pairs Fault → Result Pairs Fault
with_pair pair (Ok rest) = Ok (pair ∷ rest)
with_pair pair (Err fault) = Err fault

-- a key is above the one before it, where there is one
abbrev pub is_above : Option ℕ → ℕ → Bool
is_above None key = true
is_above (Some last) key = nat_lt last key

-- In the two steps below `again pos last` reads on at a place, behind the key `last`. The data ends
-- at `end`.

-- a length, and that many octets of value
abbrev pub pair_step : (ℕ → Option ℕ → Result Pairs Fault) → List ℕ → ℕ → ℕ → Result Pairs Fault
pair_step again message end pos =
    let key = number_at message pos in
    let n = number_at message (pos + 2) in
    let rest = again (pos + 4 + n) (Some key) in
    if nat_lt end (pos + 4) then Err Short
    else if nat_lt end (pos + 4 + n) then Err Short
    else with_pair (key, slice_range message (pos + 4) (pos + 4 + n)) rest

-- a pair at the place, unless the data ends there; its key is tested before its length is read
unfoldable pub pairs_step : (ℕ → Option ℕ → Result Pairs Fault) → List ℕ → ℕ → ℕ → Option ℕ
    → Result Pairs Fault
pairs_step again message end pos last =
    let pair = pair_step again message end pos in
    if pos == end then Ok []
    else if nat_lt end (pos + 2) then Err Short
    else if not (is_above last (number_at message pos)) then Err Form
    else pair

-- at most so many steps; what stands for no step is never asked for by `pairs_at`
unfoldable pub pairs_within : ℕ → List ℕ → ℕ → ℕ → Option ℕ → Result Pairs Fault
pairs_within zero message end = pairs_step (λ _ _. Err Short) message end
pairs_within (suc steps) message end = pairs_step (pairs_within steps message end) message end

-- The pairs from a place to the data's end, with keys that ascend strictly from above `last`. Each
-- pair lies behind the one before, so these steps are enough: the law `pairs_by_step` says that
-- `pairs_at` is `pairs_step` of itself.
unfoldable pub pairs_at : List ℕ → ℕ → ℕ → Option ℕ → Result Pairs Fault
pairs_at message end pos last = pairs_within (end - pos) message end pos last

-- the octets of a pair, where there is one: its key, its length, its value
abbrev pub pair_wire : ℕ → Option (List ℕ) → List ℕ
pair_wire key None = []
pair_wire key (Some value) = be2 key ++ be2 (length value) ++ value

-- the pairs of so many keys in turn, the first of which is `key`
unfoldable pub wire_from : ℕ → ℕ → Pairs → List ℕ
wire_from zero key pairs = []
wire_from (suc count) key pairs =
    pair_wire key (value_at pairs key) ++ wire_from count (key + 1) pairs

-- the octets of a map: its pairs of the keys 0 to 65,535 in turn
unfoldable pub wire : Pairs → List ℕ
wire pairs = wire_from 65536 0 pairs

-- keys ascend strictly and are at least `least`; keys and lengths are numbers of 16 bits
abbrev pub Ascends : ℕ → Pairs → Type 0
Ascends least [] = Unit {0}
Ascends least (pair ∷ pairs) = (least ≤ pair.0) × (pair.0 < 65536) × (length pair.1 < 65536)
    × Ascends (pair.0 + 1) pairs

-- pairs that are a map's
abbrev pub IsMap : Pairs → Type 0
IsMap pairs = Ascends 0 pairs

-- the pairs' octets, joined
abbrev pub pairs_wire : Pairs → List ℕ
pairs_wire [] = []
pairs_wire (pair ∷ pairs) = (be2 pair.0 ++ be2 (length pair.1) ++ pair.1) ++ pairs_wire pairs
