-- What the calls on SVCB and HTTPS data answer.
use Rattle.std.specs.Prelude.{◌≡◌, ℕ, ◌+◌, ◌^◌, ◌≤◌, ◌<◌, List, [], ◌∷◌, length, map, Some, None, Result, Ok, Err, nat_lt, nat_le, slice_range, if◌then◌else◌, ◌||◌, ◌==◌, Bool, true, not}
use Rattle.std.specs.List.{list_all}
use Rattle.name_spec.specs.Octets.{Fault, number_at}
use Rattle.name_spec.specs.Names.{name_wire}
use Rattle.svcb_spec.specs.declared.Reply.{Reply}
use Rattle.svcb_spec.specs.declared.Reply.TheVariants.{Accepted, DuplicateKey, ShortBuf}
use Rattle.svcb_spec.specs.Params.{Pairs, pairs_at}
use Rattle.svcb_spec.specs.Values as values
use Rattle.svcb_spec.specs.Records.{Record}
use Rattle.svcb_spec.specs.Rebuilding as spec
use Rattle.svcb_c.specs.Buffers.{over, room_status}
use Rattle.svcb_c.specs.Statuses.{fault_status}
use Rattle.svcb_c.specs.declared.records.SvcbRecord.{SvcbRecord}
use Rattle.svcb_c.specs.declared.records.SvcbParam.{SvcbParam}
use Rattle.svcb_c.specs.declared.records.SvcbPush.{SvcbPush}
use Rattle.svcb_c.specs.declared.status.TheConstants.{HW_OK, HW_E_PLACE, HW_E_SHORT, HW_E_LIMIT, HW_E_TOO_LONG, HW_E_ARGUMENT, HW_END}

-- ---- reading

abbrev pub target_status : Result Record Fault → ℕ → ℕ
target_status (Ok found) room = room_status (name_wire found.labels) room
target_status (Err fault) room = fault_status fault

-- what is seen of a record that was read: its priority, its target uncompressed in the buffer, the
-- count of its parameters, and the place in the message from which they are read
abbrev pub IsSeen : Result Record Fault → List ℕ → ℕ → SvcbRecord → List ℕ → List ℕ → Type 0
IsSeen (Ok found) message end seen before after =
    (seen.priority ≡ found.priority)
    × (seen.target_len ≡ length (name_wire found.labels))
    × (after ≡ over (name_wire found.labels) before)
    × (seen.params_count ≡ length found.pairs)
    × (pairs_at message end seen.params_start None ≡ Ok found.pairs)
IsSeen (Err fault) message end seen before after = ⊥

-- ---- a parameter

abbrev pub next_status : List ℕ → ℕ → ℕ → ℕ
next_status message end pos =
    if nat_lt (length message) end || nat_lt end pos then HW_E_PLACE
    else if pos == end then HW_END
    else if nat_lt end (pos + 4) then HW_E_SHORT
    else if nat_lt end (pos + 4 + number_at message (pos + 2)) then HW_E_SHORT
    else HW_OK

abbrev pub IsParamAt : List ℕ → ℕ → SvcbParam → Type 0
IsParamAt message pos param =
    (param.key ≡ number_at message pos) × (param.start ≡ pos + 4)
    × (param.len ≡ number_at message (pos + 2))

-- Where the pairs from a place on are read, the answer there: the end, or the first pair, and the
-- place from which the others are read.
abbrev pub IsNext : Pairs → List ℕ → ℕ → ℕ → SvcbParam → Type 0
IsNext [] message end status param = status ≡ HW_END
IsNext (pair ∷ pairs) message end status param =
    (status ≡ HW_OK)
    × (pair ≡ (param.key, slice_range message param.start (param.start + param.len)))
    × (pairs_at message end (param.start + param.len) (Some param.key) ≡ Ok pairs)

-- ---- rebuilding

-- the value that a push names, in the octets of all values
abbrev pub pushed_value : List ℕ → SvcbPush → values.Value
pushed_value octets push =
    values.Unknown push.key (slice_range octets push.start (push.start + push.len))

-- whether the octets that a push names are there
abbrev pub is_named : List ℕ → SvcbPush → Bool
is_named octets push = nat_le (push.start + push.len) (length octets)

abbrev pub reply_number : Reply → ℕ
reply_number Accepted = 0
reply_number DuplicateKey = 1
reply_number ShortBuf = 2

-- the record data in the `len` octets from `start` on, with what the pushes name
abbrev pub rebuilt : List ℕ → ℕ → ℕ → List SvcbPush → List ℕ → ℕ
    → Result spec.Rebuilt spec.Refusal
rebuilt message start len pushes octets limit =
    spec.rebuild message start len (map (pushed_value octets) pushes) limit

abbrev pub rebuilt_status : Result spec.Rebuilt spec.Refusal → ℕ → ℕ
rebuilt_status (Ok done) room = room_status done.octets room
rebuilt_status (Err (spec.Unread fault)) room = fault_status fault
rebuilt_status (Err spec.OverLimit) room = HW_E_LIMIT
rebuilt_status (Err spec.TooLong) room = HW_E_TOO_LONG

-- the status that is due unless memory is wanting
abbrev pub rebuild_status : List ℕ → ℕ → ℕ → List SvcbPush → List ℕ → ℕ → ℕ → ℕ → ℕ
rebuild_status message start len pushes octets limit room replies =
    if nat_lt (length message) (start + len) then HW_E_PLACE
    else if nat_le (2 ^ 31) limit then HW_E_ARGUMENT
    else if nat_lt replies (length pushes) then HW_E_ARGUMENT
    else if not (list_all (is_named octets) pushes) then HW_E_ARGUMENT
    else rebuilt_status (rebuilt message start len pushes octets limit) room

-- memory is taken only where the data was read, and its parameters are within the limit
abbrev pub TakesMemory : Result spec.Rebuilt spec.Refusal → Type 0
TakesMemory (Ok done) = Unit {0}
TakesMemory (Err (spec.Unread fault)) = ⊥
TakesMemory (Err spec.OverLimit) = ⊥
TakesMemory (Err spec.TooLong) = Unit {0}

-- and the arguments are good
pub record MayWantMemory (message : List ℕ) (start len : ℕ) (pushes : List SvcbPush)
    (octets : List ℕ) (limit replies : ℕ) : Type 0 where
  pub within : start + len ≤ length message
  pub in_range : limit < 2 ^ 31
  pub enough : length pushes ≤ replies
  pub named : list_all (is_named octets) pushes ≡ true
  pub takes : TakesMemory (rebuilt message start len pushes octets limit)

-- the octets that a result needs
abbrev pub NeedsOctets : Result spec.Rebuilt spec.Refusal → ℕ → Type 0
NeedsOctets (Ok done) needed = needed ≡ length done.octets
NeedsOctets (Err refusal) needed = ⊥

-- the octets and the replies in the buffers
abbrev pub IsWritten : Result spec.Rebuilt spec.Refusal → ℕ → List ℕ → List ℕ → Type 0
IsWritten (Ok done) written before after =
    (written ≡ length done.octets) × (after ≡ over done.octets before)
IsWritten (Err refusal) written before after = ⊥

abbrev pub AreReplies : Result spec.Rebuilt spec.Refusal → List ℕ → List ℕ → Type 0
AreReplies (Ok done) before after = after ≡ over (map reply_number done.replies) before
AreReplies (Err refusal) before after = ⊥
