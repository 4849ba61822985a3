-- How the data of a record is read under the number of its type.
use Rattle.std.specs.Prelude.{ℕ, ◌-◌, ◌==◌, Result, Ok, Err, if◌then◌else◌}
use Rattle.name_spec.specs.Octets.{Fault}
use Rattle.svcb_spec.specs.Records.{Record, read}
use Rattle.wire_base.specs.Input.{Input, octets_left}
use Rattle.wire_base.specs.RecordReading.{DataRead, read_up_to}
use Rattle.wire_records.specs.Reading.{address_read, unknown_read}
use Rattle.record_spec.specs.Rows.{sshfp, tlsa, cds, cdnskey, openpgpkey, zonemd}
use Rattle.record_spec.specs.Wire.{fields_read}
use Rattle.record_spec.specs.IpseckeyWire.{ipseckey_read}
use Rattle.record_spec.specs.RecordData.{RecordData, A, Aaaa, Sshfp, Ipseckey, Tlsa, Cds, Cdnskey, Openpgpkey, Zonemd, Svcb, Https, Unknown}

-- what was read, as data of its type, and the same place behind it
abbrev pub read_as : {V : Type 0} → (V → RecordData) → Result (DataRead V) Fault
    → Result (DataRead RecordData) Fault
read_as type (Ok found) = Ok (record { value = type found.value; next = found.next })
read_as type (Err fault) = Err fault

-- the data of an SVCB record in all octets before the end of the data
abbrev pub svcb_read : Input → Result (DataRead Record) Fault
svcb_read input = read_up_to input.end (read input.message input.pos (input.end - input.pos))

-- The data under a type number, and the place behind it. A number that has no row reads all octets
-- before the end of the data.
abbrev pub union_read : ℕ → Input → Result (DataRead RecordData) Fault
union_read rtype input =
    if rtype == 1 then read_as A (address_read 4 input)
    else if rtype == 28 then read_as Aaaa (address_read 16 input)
    else if rtype == 44 then read_as Sshfp (fields_read sshfp input)
    else if rtype == 45 then read_as Ipseckey (ipseckey_read input)
    else if rtype == 52 then read_as Tlsa (fields_read tlsa input)
    else if rtype == 59 then read_as Cds (fields_read cds input)
    else if rtype == 60 then read_as Cdnskey (fields_read cdnskey input)
    else if rtype == 61 then read_as Openpgpkey (fields_read openpgpkey input)
    else if rtype == 63 then read_as Zonemd (fields_read zonemd input)
    else if rtype == 64 then read_as Svcb (svcb_read input)
    else if rtype == 65 then read_as Https (svcb_read input)
    else read_as Unknown (read_up_to input.end (unknown_read rtype (octets_left input)))
