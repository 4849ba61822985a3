-- What the calls on messages answer.
use Rattle.std.specs.Prelude.{◌≡◌, ℕ, ◌+◌, List, length, Result, Ok, Err, nat_lt, if◌then◌else◌}
use Rattle.name_spec.specs.Octets.{Fault, Short, number_at}
use Rattle.name_spec.specs.Names.{name_wire}
use Rattle.wire_base.specs.Input.{Input}
use Rattle.wire_base.specs.RecordReading.{DataRead}
use Rattle.dns_message.specs.Entries.{MessageRecord, next_record}
use Rattle.dns_message.specs.Messages.{answers_start}
use Rattle.svcb_c.specs.Buffers.{over, room_status}
use Rattle.svcb_c.specs.Statuses.{fault_status}
use Rattle.svcb_c.specs.declared.records.HwMessage.{HwMessage}
use Rattle.svcb_c.specs.declared.records.HwRecord.{HwRecord}
use Rattle.svcb_c.specs.declared.status.TheConstants.{HW_OK, HW_E_PLACE}

-- ---- the header

-- where the records of a message begin that has a header, or the first fault before them
abbrev pub records_start : List ℕ → Result Input Fault
records_start message = if nat_lt (length message) 12 then Err Short else answers_start message

abbrev pub begun_status : Result Input Fault → ℕ
begun_status (Ok place) = HW_OK
begun_status (Err fault) = fault_status fault

-- the numbers of the header, and the place behind the questions
abbrev pub IsBegun : Result Input Fault → List ℕ → HwMessage → Type 0
IsBegun (Ok place) message seen =
    (seen.id ≡ number_at message 0) × (seen.flags ≡ number_at message 2)
    × (seen.qdcount ≡ number_at message 4) × (seen.ancount ≡ number_at message 6)
    × (seen.nscount ≡ number_at message 8) × (seen.arcount ≡ number_at message 10)
    × (seen.records_start ≡ place.pos)
IsBegun (Err fault) message seen = ⊥

-- ---- a record

-- the record at a place in a message, or its first fault
abbrev pub record_at : List ℕ → ℕ → Result (DataRead MessageRecord) Fault
record_at message pos =
    next_record (record { message = message; end = length message; pos = pos })

abbrev pub found_status : Result (DataRead MessageRecord) Fault → ℕ → ℕ
found_status (Ok found) room = room_status (name_wire found.value.owner.labels) room
found_status (Err fault) room = fault_status fault

-- the status of a call for the record at a place, whose owner is to be written
abbrev pub record_status : List ℕ → ℕ → ℕ → ℕ
record_status message pos room =
    if nat_lt (length message) pos then HW_E_PLACE
    else found_status (record_at message pos) room

-- its fixed fields, the places of its data and of what follows it, and its owner uncompressed in
-- the buffer
abbrev pub IsRecordSeen : Result (DataRead MessageRecord) Fault → HwRecord → List ℕ → List ℕ
    → Type 0
IsRecordSeen (Ok found) seen before after =
    (seen.rtype ≡ found.value.rtype) × (seen.class ≡ found.value.class)
    × (seen.ttl ≡ found.value.ttl)
    × (seen.owner_len ≡ length (name_wire found.value.owner.labels))
    × (after ≡ over (name_wire found.value.owner.labels) before)
    × (seen.data_start ≡ found.value.rdata.pos)
    × (seen.data_start + seen.data_len ≡ found.value.rdata.end) × (seen.next ≡ found.next)
IsRecordSeen (Err fault) seen before after = ⊥
