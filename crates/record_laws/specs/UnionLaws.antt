-- Laws of the data of records of any type, which the functions of `src/any_type.rt` state.
use Rattle.std.specs.Prelude.{◌≡◌, ℕ, ◌≤◌, false, length}
use Rattle.name_spec.specs.AddressLaws.{AreOctets}
use Rattle.record_spec.specs.Rows.{IsAssociationData, sshfp, tlsa, cds, cdnskey, openpgpkey, zonemd}
use Rattle.record_spec.specs.Ipseckeys.{IsAddress, IsIpseckey, lacks_key}
use Rattle.record_laws.specs.RecordLaws.{IsScannedAs}
use Rattle.svcb_laws.specs.DataTextLaws as service
use Rattle.record_spec.specs.RecordData.{RecordData, A, Aaaa, Sshfp, Ipseckey, Tlsa, Cds, Cdnskey, Openpgpkey, Zonemd, Svcb, Https, Unknown, rtype_of}
use Rattle.record_spec.specs.UnionTexts.{union_scan, union_printed}

-- data of a type: its parts are octets, its numbers and lengths fit, and no IPSECKEY key is missing
abbrev pub IsUnionData : RecordData → Type 0
IsUnionData (A address) = IsAddress 4 address
IsUnionData (Aaaa address) = IsAddress 16 address
IsUnionData (Sshfp found) = IsAssociationData sshfp found
IsUnionData (Ipseckey found) = IsIpseckey found × (lacks_key found.algorithm found.key ≡ false)
IsUnionData (Tlsa found) = IsAssociationData tlsa found
IsUnionData (Cds found) = IsAssociationData cds found
IsUnionData (Cdnskey found) = IsAssociationData cdnskey found
IsUnionData (Openpgpkey found) = IsAssociationData openpgpkey found
IsUnionData (Zonemd found) = IsAssociationData zonemd found
IsUnionData (Svcb found) = service.IsRecordOfOctets found
IsUnionData (Https found) = service.IsRecordOfOctets found
IsUnionData (Unknown found) = AreOctets found.octets × (length found.octets ≤ 65535)

-- no IPSECKEY key is missing
abbrev pub IsKeyed : RecordData → Type 0
IsKeyed (Ipseckey found) = lacks_key found.algorithm found.key ≡ false
IsKeyed found = Unit {0}

-- data under the number of its type
abbrev pub IsDataUnder : ℕ → RecordData → Type 0
IsDataUnder rtype found = IsUnionData found × (rtype_of found ≡ rtype)

-- The printed text of data has tokens, and those are scanned under the number of its type as that
-- data. So it is also of octets under the number of a type that has fields.
abbrev pub UnionTextReadBack : Type 0
UnionTextReadBack = (found : RecordData) → IsUnionData found
    → IsScannedAs (union_scan (rtype_of found)) (union_printed found) found
