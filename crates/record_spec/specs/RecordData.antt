-- The data of a record of any type, and its octets.
use Rattle.std.specs.Prelude.{ℕ, List}
use Rattle.svcb_spec.specs.Records.{Record, rdata}
use Rattle.wire_records.specs.UnknownView.{UnknownData}
use Rattle.record_spec.specs.Rows.{Data, sshfp, tlsa, cds, cdnskey, openpgpkey, zonemd}
use Rattle.record_spec.specs.Wire.{data_wire}
use Rattle.record_spec.specs.Ipseckeys as ipseckeys
use Rattle.record_spec.specs.Ipseckeys.{ipseckey_wire}

-- The data of one of eleven types by its fields, or octets under any type number. Data of the
-- eleven types may be held as octets too.
pub data RecordData : Type 0 where
  A : (address : List ℕ) → RecordData
  Aaaa : (address : List ℕ) → RecordData
  Sshfp : (found : Data) → RecordData
  Ipseckey : (found : ipseckeys.Ipseckey) → RecordData
  Tlsa : (found : Data) → RecordData
  Cds : (found : Data) → RecordData
  Cdnskey : (found : Data) → RecordData
  Openpgpkey : (found : Data) → RecordData
  Zonemd : (found : Data) → RecordData
  Svcb : (found : Record) → RecordData
  Https : (found : Record) → RecordData
  Unknown : (found : UnknownData) → RecordData

-- the number of the record's type, as the registry of resource record types has it
abbrev pub rtype_of : RecordData → ℕ
rtype_of (A address) = 1
rtype_of (Aaaa address) = 28
rtype_of (Sshfp found) = 44
rtype_of (Ipseckey found) = 45
rtype_of (Tlsa found) = 52
rtype_of (Cds found) = 59
rtype_of (Cdnskey found) = 60
rtype_of (Openpgpkey found) = 61
rtype_of (Zonemd found) = 63
rtype_of (Svcb found) = 64
rtype_of (Https found) = 65
rtype_of (Unknown found) = found.rtype

-- the octets; in canonical form (RFC 4034, section 6.2) they are the same
abbrev pub union_wire : RecordData → List ℕ
union_wire (A address) = address
union_wire (Aaaa address) = address
union_wire (Sshfp found) = data_wire sshfp found
union_wire (Ipseckey found) = ipseckey_wire found
union_wire (Tlsa found) = data_wire tlsa found
union_wire (Cds found) = data_wire cds found
union_wire (Cdnskey found) = data_wire cdnskey found
union_wire (Openpgpkey found) = data_wire openpgpkey found
union_wire (Zonemd found) = data_wire zonemd found
union_wire (Svcb found) = rdata found.priority found.labels found.pairs
union_wire (Https found) = rdata found.priority found.labels found.pairs
union_wire (Unknown found) = found.octets
