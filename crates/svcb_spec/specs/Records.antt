-- The data of SVCB and HTTPS records (RFC 9460, section 2.2).
use Rattle.std.specs.Prelude.{ℕ, ◌+◌, ◌<◌, List, ◌++◌, length, None, Result, Ok, Err, nat_lt, if◌then◌else◌}
use Rattle.name_spec.specs.Octets.{Fault, Short, Form, be2, number_at, ◌>>=◌}
use Rattle.name_spec.specs.Names.{name_at, name_wire, AreLabels}
use Rattle.svcb_spec.specs.Params.{Pairs, pairs_at, wire, IsMap}

-- the priority, the labels of the target without the root, and the parameters
pub record Record : Type 0 where
  pub priority : ℕ
  pub labels : List (List ℕ)
  pub pairs : Pairs

-- the octets of record data, whose target is uncompressed
abbrev pub rdata : ℕ → List (List ℕ) → Pairs → List ℕ
rdata priority labels pairs = be2 priority ++ name_wire labels ++ wire pairs

-- what a record is: a priority of 16 bits, the labels of a name, a map, and at most 65,535 octets
-- in all
pub record IsRecord (found : Record) : Type 0 where
  pub priority : found.priority < 65536
  pub labels : AreLabels 0 found.labels
  pub is_map : IsMap found.pairs
  pub fits : length (rdata found.priority found.labels found.pairs) < 65536

-- the record data in the `len` octets from `start` on: at most 65,535 octets, as it stands and
-- uncompressed
unfoldable pub read : List ℕ → ℕ → ℕ → Result Record Fault
read message start len =
    let end = start + len in
    if nat_lt 65535 len then Err Form
    else if nat_lt len 2 then Err Short
    else do
      name ← name_at message end (start + 2) 0 0
      pairs ← pairs_at message end name.next None
      if nat_lt 65535 (2 + length (name_wire name.labels) + length (wire pairs)) then Err Form
          else Ok (record {
            priority = number_at message start;
            labels = name.labels;
            pairs = pairs;
          })
