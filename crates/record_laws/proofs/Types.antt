-- The six types are such as the laws of texts speak of.
use Rattle.std.proofs.Common.{arith}
use Rattle.record_spec.specs.DocumentLaws.{cds_fields, cdnskey_fields, sshfp_fields, tlsa_fields, zonemd_fields}
use Rattle.record_laws.specs.RecordLaws.{TypesAreRows}

pub types_are : TypesAreRows
types_are = record {
  cds_is = record {
    small = (omega arith, (omega arith, (omega arith, tt)));
    documents = cds_fields;
  };
  cdnskey_is = record {
    small = (omega arith, (omega arith, (omega arith, tt)));
    documents = cdnskey_fields;
  };
  sshfp_is = record { small = (omega arith, (omega arith, tt)); documents = sshfp_fields };
  tlsa_is = record {
    small = (omega arith, (omega arith, (omega arith, tt)));
    documents = tlsa_fields;
  };
  zonemd_is = record {
    small = (omega arith, (omega arith, (omega arith, tt)));
    documents = zonemd_fields;
  };
  openpgpkey_is = record { small = tt; documents = tt };
}
