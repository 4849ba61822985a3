-- Laws of the data of these records, which the functions of `src/records.rt` state.
use Rattle.std.specs.Prelude.{◌≡◌, ℕ, ◌+◌, ◌^◌, ◌≤◌, false, List, [], ◌∷◌, ◌++◌, length, Ok}
use Rattle.std.specs.List.{flat_map}
use Rattle.name_spec.specs.AddressLaws.{AreOctets}
use Rattle.text_spec.specs.declared.display_kind.DisplayKind.{DisplayKind}
use Rattle.text_spec.specs.declared.lexeme.Symbol.{Symbol}
use Rattle.text_spec.specs.Pieces.{HasTokens}
use Rattle.text_spec.specs.Scanning.{Scanning, octets_of, done}
use Rattle.text_spec.specs.Layouts.{laid_out_text}
use Rattle.wire_base.specs.Input.{Input, octets_left}
use Rattle.wire_base.specs.RecordReading.{DataRead}
use Rattle.record_spec.specs.Rows.{Field, Row, Data, IsAssociationData, cds, cdnskey, sshfp, tlsa, zonemd, openpgpkey}
use Rattle.record_spec.specs.Wire.{data_wire, read_data}
use Rattle.record_spec.specs.Texts.{scan_data, fields_printed}
use Rattle.record_spec.specs.Documents.{data_document}
use Rattle.record_spec.specs.DocumentLaws.{HaveDocuments}
use Rattle.record_spec.specs.Ipseckeys.{Ipseckey, IsIpseckey, lacks_key, ipseckey_wire}
use Rattle.record_spec.specs.IpseckeyWire.{ipseckey_read}
use Rattle.record_spec.specs.IpseckeyTexts.{scan_ipseckey, ipseckey_printed, ipseckey_document}

-- ---- octets

-- data that is composed is read, where its last field is long enough
abbrev pub FieldsReadBack : Type 0
FieldsReadBack = (row : Row) (found : Data) → IsAssociationData row found
    → row.least ≤ length found.last
    → read_data row (data_wire row found) ≡ Ok found

-- what is read is data, whose last field is long enough, and it is composed to the octets that were
-- read
abbrev pub FieldsComposedBack : Type 0
FieldsComposedBack = (row : Row) (octets : List ℕ) (found : Data) → AreOctets octets
    → read_data row octets ≡ Ok found
    → IsAssociationData row found × (row.least ≤ length found.last) × (data_wire row found ≡ octets)

-- ---- texts

-- the numbers of each field fit 64 bits
abbrev pub AreSmall : List Field → Type 0
AreSmall [] = Unit {0}
AreSmall (field ∷ fields) = (256 ^ field.width ≤ 2 ^ 64) × AreSmall fields

-- what the laws of texts ask of a type: small numbers, whose items are documents
pub record IsLawfulRow (row : Row) : Type 0 where
  pub small : AreSmall row.fields
  pub documents : HaveDocuments row.fields

-- the six types are such
pub record TypesAreRows : Type 0 where
  pub cds_is : IsLawfulRow cds
  pub cdnskey_is : IsLawfulRow cdnskey
  pub sshfp_is : IsLawfulRow sshfp
  pub tlsa_is : IsLawfulRow tlsa
  pub zonemd_is : IsLawfulRow zonemd
  pub openpgpkey_is : IsLawfulRow openpgpkey

-- behind any tokens, these are scanned as this, and all of them are taken
abbrev pub AreScannedAs : {V : Type 0} → Scanning V → List (List Symbol) → V → Type 0
AreScannedAs scanning tokens found = (front : List (List Symbol))
    → scanning (front ++ tokens) (length front) ≡ done found (length front + length tokens)

-- A text has tokens, and those that it has are scanned as this, all of them taken: by themselves,
-- and behind any tokens that are taken before, as a zone's reader takes owner, class and type.
pub record IsScannedAs {V : Type 0} (scanning : Scanning V) (text : List ℕ)
    (found : V) : Type 0 where
  pub has : (tokens : List (List Symbol)) × HasTokens text tokens
  pub scanned : (tokens : List (List Symbol)) → HasTokens text tokens
      → scanning tokens 0 ≡ done found (length tokens)
  pub behind : (tokens : List (List Symbol)) → HasTokens text tokens
      → AreScannedAs scanning tokens found

-- what is scanned is data, and all tokens are taken
abbrev pub ScannedIsData : Type 0
ScannedIsData = (row : Row) (tokens : List (List Symbol)) (place end : ℕ) (found : Data)
    → AreOctets (flat_map octets_of tokens)
    → scan_data row tokens place ≡ done found end → IsAssociationData row found
    × (end ≡ length tokens)

-- data that is printed is scanned
abbrev pub FieldsTextReadBack : Type 0
FieldsTextReadBack = (row : Row) → IsLawfulRow row → (found : Data) → IsAssociationData row found
    → IsScannedAs (scan_data row) (fields_printed row found) found

-- and so is data that is laid out, in each layout
abbrev pub FieldsLayoutReadBack : Type 0
FieldsLayoutReadBack = (row : Row) → IsLawfulRow row → (found : Data) → IsAssociationData row found
    → (kind : DisplayKind)
    → IsScannedAs (scan_data row) (laid_out_text kind (data_document row found)) found

-- ---- IPSECKEY

-- Data that is composed is read, whatever stands before and behind it, where no key is missing.
abbrev pub IpseckeyReadBack : Type 0
IpseckeyReadBack = (found : Ipseckey) (front behind : List ℕ) → IsIpseckey found
    → lacks_key found.algorithm found.key ≡ false
    → ipseckey_read (record {
      message = front ++ (ipseckey_wire found ++ behind);
      end = length front + length (ipseckey_wire found);
      pos = length front;
    })
    ≡ Ok (record { value = found; next = length front + length (ipseckey_wire found) })

-- what is read from all octets of an input is data without a missing key, and it is composed to
-- these octets
pub record IsReadWhole (input : Input) (found : DataRead Ipseckey) : Type 0 where
  pub is_data : IsIpseckey found.value
  pub has_key : lacks_key found.value.algorithm found.value.key ≡ false
  pub octets : ipseckey_wire found.value ≡ octets_left input
  pub next : found.next ≡ input.end

abbrev pub IpseckeyComposedBack : Type 0
IpseckeyComposedBack = (input : Input) (found : DataRead Ipseckey) → AreOctets input.message
    → input.end ≤ length input.message
    → ipseckey_read input ≡ Ok found → IsReadWhole input found

-- what is scanned is data without a missing key, and all tokens are taken
abbrev pub ScannedIsIpseckey : Type 0
ScannedIsIpseckey = (tokens : List (List Symbol)) (place end : ℕ) (found : Ipseckey)
    → AreOctets (flat_map octets_of tokens)
    → scan_ipseckey tokens place ≡ done found end
    → IsIpseckey found × (lacks_key found.algorithm found.key ≡ false) × (end ≡ length tokens)

-- IPSECKEY data without a missing key
abbrev pub IsKeyedIpseckey : Ipseckey → Type 0
IsKeyedIpseckey found = IsIpseckey found × (lacks_key found.algorithm found.key ≡ false)

-- data that is printed is scanned, where no key is missing
abbrev pub IpseckeyTextReadBack : Type 0
IpseckeyTextReadBack = (found : Ipseckey) → IsIpseckey found
    → lacks_key found.algorithm found.key ≡ false
    → IsScannedAs scan_ipseckey (ipseckey_printed found) found

-- and so is data that is laid out, in each layout
abbrev pub IpseckeyLayoutReadBack : Type 0
IpseckeyLayoutReadBack = (found : Ipseckey) → IsIpseckey found
    → lacks_key found.algorithm found.key ≡ false → (kind : DisplayKind)
    → IsScannedAs scan_ipseckey (laid_out_text kind (ipseckey_document found)) found
