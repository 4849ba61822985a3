-- Laws of how long the texts of these records are, which the functions of `src/text_lengths.rt` state.
use Rattle.std.specs.Prelude.{ℕ, ◌+◌, ◌*◌, ◌<◌, ◌≤◌, List, [], ◌∷◌, ◌++◌, length}
use Rattle.wire_records.specs.Texts.{unknown_text}
use Rattle.record_spec.specs.Rows.{Row, Data, IsAssociationData, cds, cdnskey, sshfp, tlsa, zonemd, openpgpkey}
use Rattle.record_spec.specs.Texts.{fields_printed}
use Rattle.record_spec.specs.Ipseckeys.{Ipseckey, IsIpseckey, ipseckey_len}
use Rattle.record_spec.specs.IpseckeyTexts.{ipseckey_printed}
use Rattle.record_laws.specs.RecordLaws.{AreSmall}

-- the text has at most 21 octets for each number, two for each octet of the last field, and six
-- more
abbrev pub FieldsTextByOctets : Type 0
FieldsTextByOctets = (row : Row) → AreSmall row.fields → (found : Data)
    → IsAssociationData row found
    → length (fields_printed row found) ≤ 21 * length row.fields + 2 * length found.last + 6

-- the line of the text of data of a type is shorter than 16,777,216 octets
abbrev pub LineFits : Row → Type 0
LineFits row = (found : Data) → IsAssociationData row found
    → length (fields_printed row found ++ 10 ∷ []) < 16777216

-- so it is for the six types
pub record TypesLinesFit : Type 0 where
  pub cds_fits : LineFits cds
  pub cdnskey_fits : LineFits cdnskey
  pub sshfp_fits : LineFits sshfp
  pub tlsa_fits : LineFits tlsa
  pub zonemd_fits : LineFits zonemd
  pub openpgpkey_fits : LineFits openpgpkey

-- the text of IPSECKEY data has at most 11 octets for each octet of the data
abbrev pub IpseckeyTextByOctets : Type 0
IpseckeyTextByOctets = (found : Ipseckey) → IsIpseckey found
    → length (ipseckey_printed found) ≤ 11 * ipseckey_len found

-- so its line is shorter than 16,777,216 octets
abbrev pub IpseckeyLineFits : Type 0
IpseckeyLineFits = (found : Ipseckey) → IsIpseckey found
    → length (ipseckey_printed found ++ 10 ∷ []) < 16777216

-- the text of at most 65,535 octets of any type has at most two octets for each, and nine more
abbrev pub UnknownTextByOctets : Type 0
UnknownTextByOctets = (octets : List ℕ) → length octets ≤ 65535
    → length (unknown_text octets) ≤ 2 * length octets + 9
