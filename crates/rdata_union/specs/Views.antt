-- The data of records that the types of this crate hold, as contracts see it.
use Rattle.std.specs.Prelude.{[], ◌∷◌, Result, Ok, Err}
use Rattle.name_spec.specs.Octets.{Fault}
use Rattle.wire_base.specs.RecordReading.{DataRead}
use Rattle.digest_rdata.specs.declared.sshfp.SshfpFields.{SshfpFields}
use Rattle.digest_rdata.specs.declared.tlsa.TlsaFields.{TlsaFields}
use Rattle.digest_rdata.specs.declared.cds.CdsFields.{CdsFields}
use Rattle.digest_rdata.specs.declared.cdnskey.CdnskeyFields.{CdnskeyFields}
use Rattle.digest_rdata.specs.declared.openpgpkey.OpenpgpkeyFields.{OpenpgpkeyFields}
use Rattle.digest_rdata.specs.declared.zonemd.ZonemdFields.{ZonemdFields}
use Rattle.digest_rdata.specs.FieldsView.{FieldsView, data_of}
use Rattle.record_spec.specs.Rows.{Data}
use Rattle.record_spec.specs.RecordData as spec
use Rattle.rdata_union.specs.declared.all_data.AllRecordData.{AllRecordData}
use Rattle.rdata_union.specs.declared.all_data.AllRecordData.TheVariants as all
use Rattle.rdata_union.specs.declared.zone_data.ZoneRecordData.{ZoneRecordData}
use Rattle.rdata_union.specs.declared.zone_data.ZoneRecordData.TheVariants as zone
use Rattle.rdata_union.specs.declared.data_ref.RecordDataRef.{RecordDataRef}
use Rattle.rdata_union.specs.declared.data_ref.RecordDataRef.TheVariants as borrowed

-- ---- fixed fields by their numbers, in the order of the wire

abbrev pub sshfp_of : FieldsView SshfpFields → Data
sshfp_of found = data_of (λ fields. fields.algorithm ∷ fields.fingerprint_type ∷ []) found

abbrev pub tlsa_of : FieldsView TlsaFields → Data
tlsa_of found = data_of (λ fields. fields.usage ∷ fields.selector ∷ fields.matching_type ∷ []) found

abbrev pub cds_of : FieldsView CdsFields → Data
cds_of found = data_of (λ fields. fields.key_tag ∷ fields.algorithm ∷ fields.digest_type ∷ []) found

abbrev pub cdnskey_of : FieldsView CdnskeyFields → Data
cdnskey_of found = data_of (λ fields. fields.flags ∷ fields.protocol ∷ fields.algorithm ∷ []) found

abbrev pub openpgpkey_of : FieldsView OpenpgpkeyFields → Data
openpgpkey_of found = data_of (λ fields. []) found

abbrev pub zonemd_of : FieldsView ZonemdFields → Data
zonemd_of found = data_of (λ fields. fields.serial ∷ fields.scheme ∷ fields.algorithm ∷ []) found

-- ---- the data that is held

-- data of any type
abbrev pub data_of_all : AllRecordData → spec.RecordData
data_of_all (all.A found) = spec.A found
data_of_all (all.Aaaa found) = spec.Aaaa found
data_of_all (all.Sshfp found) = spec.Sshfp (sshfp_of found)
data_of_all (all.Ipseckey found) = spec.Ipseckey found
data_of_all (all.Tlsa found) = spec.Tlsa (tlsa_of found)
data_of_all (all.Cds found) = spec.Cds (cds_of found)
data_of_all (all.Cdnskey found) = spec.Cdnskey (cdnskey_of found)
data_of_all (all.Openpgpkey found) = spec.Openpgpkey (openpgpkey_of found)
data_of_all (all.Zonemd found) = spec.Zonemd (zonemd_of found)
data_of_all (all.Svcb found) = spec.Svcb found
data_of_all (all.Https found) = spec.Https found
data_of_all (all.Unknown found) = spec.Unknown found

-- data of a zone
abbrev pub data_of_zone : ZoneRecordData → spec.RecordData
data_of_zone (zone.A found) = spec.A found
data_of_zone (zone.Aaaa found) = spec.Aaaa found
data_of_zone (zone.Sshfp found) = spec.Sshfp (sshfp_of found)
data_of_zone (zone.Ipseckey found) = spec.Ipseckey found
data_of_zone (zone.Tlsa found) = spec.Tlsa (tlsa_of found)
data_of_zone (zone.Cds found) = spec.Cds (cds_of found)
data_of_zone (zone.Cdnskey found) = spec.Cdnskey (cdnskey_of found)
data_of_zone (zone.Openpgpkey found) = spec.Openpgpkey (openpgpkey_of found)
data_of_zone (zone.Zonemd found) = spec.Zonemd (zonemd_of found)
data_of_zone (zone.Svcb found) = spec.Svcb found
data_of_zone (zone.Https found) = spec.Https found
data_of_zone (zone.Unknown found) = spec.Unknown found

-- data that is borrowed
abbrev pub data_of_ref : RecordDataRef → spec.RecordData
data_of_ref (borrowed.A found) = spec.A found.now
data_of_ref (borrowed.Aaaa found) = spec.Aaaa found.now
data_of_ref (borrowed.Sshfp found) = spec.Sshfp (sshfp_of found.now)
data_of_ref (borrowed.Ipseckey found) = spec.Ipseckey found.now
data_of_ref (borrowed.Tlsa found) = spec.Tlsa (tlsa_of found.now)
data_of_ref (borrowed.Cds found) = spec.Cds (cds_of found.now)
data_of_ref (borrowed.Cdnskey found) = spec.Cdnskey (cdnskey_of found.now)
data_of_ref (borrowed.Openpgpkey found) = spec.Openpgpkey (openpgpkey_of found.now)
data_of_ref (borrowed.Zonemd found) = spec.Zonemd (zonemd_of found.now)
data_of_ref (borrowed.Svcb found) = spec.Svcb found.now
data_of_ref (borrowed.Https found) = spec.Https found.now
data_of_ref (borrowed.Unknown found) = spec.Unknown found.now

-- ---- read

-- what was read, without the place behind it
abbrev pub value_read : {V : Type 0} → Result (DataRead V) Fault → Result V Fault
value_read (Ok found) = Ok found.value
value_read (Err fault) = Err fault
