-- Record data that is read.
use Rattle.std.specs.Prelude.{ℕ, ◌+◌, List, length, Result, Ok, Err, nat_lt, slice_range, if◌then◌else◌}
use Rattle.name_spec.specs.Octets.{Fault, Short, Form}
use Rattle.wire_base.specs.Input.{Input}
use Rattle.wire_base.specs.RecordReading.{DataRead}
use Rattle.wire_records.specs.UnknownView.{UnknownData}

-- so many octets
abbrev pub next_octets : ℕ → Input → List ℕ
next_octets len input = slice_range input.message input.pos (input.pos + len)

-- an address of so many octets, and the place behind it
abbrev pub address_read : ℕ → Input → Result (DataRead (List ℕ)) Fault
address_read len input =
    if nat_lt input.end (input.pos + len) then Err Short
    else Ok (record { value = next_octets len input; next = input.pos + len })

-- data of a type number in these octets; more than 65,535 are not allowed
abbrev pub unknown_read : ℕ → List ℕ → Result UnknownData Fault
unknown_read rtype octets =
    if nat_lt 65535 (length octets) then Err Form
    else Ok (record { rtype = rtype; octets = octets })
