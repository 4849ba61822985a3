-- The printed text of data of any type is scanned under the number of its type as that data.
use Rattle.std.proofs.Common.{◌≡◌, ℕ, ◌^◌, zero-add, true, false, List, [], ◌∷◌, ◌++◌, length, refl, sym, ap, ◌∙◌, subst}
use Rattle.std.specs.Prelude.{nat_lt}
use Rattle.name_spec.specs.AddressLaws.{AreOctets}
use Rattle.svcb_spec.specs.Records.{Record}
use Rattle.text_spec.specs.declared.lexeme.Symbol.{Symbol}
use Rattle.text_spec.specs.Encodings.{base64_text}
use Rattle.text_spec.specs.Pieces.{HasTokens}
use Rattle.text_spec.specs.Scanning.{scan_then, is_marked, done}
use Rattle.text_spec.proofs.Again.{has_tokens}
use Rattle.text_spec.proofs.PlainTexts.{ArePlain-base64}
use Rattle.text_spec.specs.Rows.{number_below, name, rest_base64}
use Rattle.svcb_spec.specs.ParamTexts.{params}
use Rattle.record_spec.specs.declared.Encoding.TheVariants.{Base64}
use Rattle.record_spec.specs.Rows.{Row, Data, IsAssociationData, AreNumbers, sshfp, tlsa, cds, cdnskey, openpgpkey, zonemd}
use Rattle.record_spec.specs.Texts.{scan_data, scan_last, numbers_printed, last_printed, fields_printed}
use Rattle.record_spec.specs.Ipseckeys as ipseckeys
use Rattle.record_spec.specs.Ipseckeys.{IsIpseckey, lacks_key}
use Rattle.record_spec.specs.IpseckeyTexts.{scan_ipseckey, scan_gateway, complete_ipseckey, ipseckey_printed}
use Rattle.record_laws.specs.RecordLaws.{IsScannedAs, IsLawfulRow, TypesAreRows, FieldsTextReadBack, IpseckeyTextReadBack}
use Rattle.record_laws.proofs.Texts.{text_tokens, bracketed_text}
use Rattle.svcb_spec.specs.DataTexts.{svcb_data}
use Rattle.svcb_spec.specs.DataTexts as svcb
use Rattle.svcb_laws.specs.DataTextLaws as service
use Rattle.svcb_laws.proofs.DataTexts.{text_again}
use Rattle.record_spec.specs.RecordData.{RecordData, A, Aaaa, Sshfp, Ipseckey, Tlsa, Cds, Cdnskey, Openpgpkey, Zonemd, Svcb, Https, Unknown}
use Rattle.record_spec.specs.UnionTexts.{scan_as, scan_fields, union_scan}
use Rattle.record_laws.specs.UnionLaws.{UnionTextReadBack}
use Rattle.record_laws.proofs.PlainTexts.{a_text_again, aaaa_text_again, unknown_text_again}
use Rattle.record_laws.proofs.UnionFields.{number_unmarked, numbers_unmarked, text_under}

-- ---- types of one form, the first of whose fields is a number

module _ (texts : FieldsTextReadBack) (rtype : ℕ) (type : Data → RecordData) (row : Row)
    (is_row : IsLawfulRow row)
    (fields : (tokens : List (List Symbol)) (place : ℕ)
    → scan_fields rtype tokens place ≡ scan_as type (scan_data row) tokens place)
    (numbered : nat_lt 0 (length row.fields) ≡ true) where
  fields_text : (found : Data) → IsAssociationData row found
      → IsScannedAs (union_scan rtype) (fields_printed row found) (type found)
  fields_text found is =
      text_under rtype type (scan_data row) fields (fields_printed row found) found
      (texts row is_row found is)
      (λ tokens has scans. numbers_unmarked row.fields (scan_last row) tokens found
      (length tokens) numbered scans)

-- ---- OPENPGPKEY: a key alone

-- no symbol of a text that stands for itself is escaped
text_unmarked : (text : List ℕ) → is_marked (text_tokens text) 0 ≡ false
text_unmarked [] = refl
text_unmarked (c ∷ []) = refl
text_unmarked (c ∷ next ∷ text) = refl

key_has : (numbers octets : List ℕ) → AreNumbers [] numbers → AreOctets octets
    → HasTokens (numbers_printed numbers ++ last_printed Base64 true octets)
    (text_tokens (base64_text octets))
key_has [] octets none are = bracketed_text (base64_text octets) (ArePlain-base64 octets are)
key_has (n ∷ numbers) octets none are = absurd none

key_unmarked : (found : Data) → IsAssociationData openpgpkey found → (tokens : List (List Symbol))
    → HasTokens (fields_printed openpgpkey found) tokens
    → is_marked tokens 0 ≡ false
key_unmarked found is tokens has =
    let text = base64_text found.last in
    let own = key_has found.numbers found.last is.numbers is.octets in
    let same : text_tokens text ≡ tokens =
    sym (has_tokens (fields_printed openpgpkey found) (text_tokens text) own).1
    ∙ (has_tokens (fields_printed openpgpkey found) tokens has).1 in
    subst (λ (ts : List (List Symbol)). is_marked ts 0 ≡ false) same (text_unmarked text)

openpgpkey_text : FieldsTextReadBack → IsLawfulRow openpgpkey → (found : Data)
    → IsAssociationData openpgpkey found
    → IsScannedAs (union_scan 61) (fields_printed openpgpkey found) (Openpgpkey found)
openpgpkey_text texts is_row found is =
    text_under 61 Openpgpkey (scan_data openpgpkey) (λ tokens place. refl)
    (fields_printed openpgpkey found) found (texts openpgpkey is_row found is)
    (λ tokens has scans. key_unmarked found is tokens has)

-- ---- IPSECKEY

ipseckey_unmarked : (tokens : List (List Symbol)) (found : ipseckeys.Ipseckey) (end : ℕ)
    → scan_ipseckey tokens 0 ≡ done found end → is_marked tokens 0 ≡ false
ipseckey_unmarked tokens found end scans =
    number_unmarked 256
    (λ precedence after_precedence.
    scan_then (number_below 256 tokens after_precedence) (λ type after_type.
    scan_then (number_below 256 tokens after_type) (λ algorithm after_algorithm.
    scan_then (scan_gateway type tokens after_algorithm) (λ gateway after_gateway.
    scan_then (rest_base64 tokens after_gateway) (λ key end.
    complete_ipseckey
    (record { precedence = precedence; algorithm = algorithm; gateway = gateway; key = key })
    tokens end)))))
    tokens found end scans

ipseckey_text : IpseckeyTextReadBack → (found : ipseckeys.Ipseckey) → IsIpseckey found
    → lacks_key found.algorithm found.key ≡ false
    → IsScannedAs (union_scan 45) (ipseckey_printed found) (Ipseckey found)
ipseckey_text texts found is has_key =
    text_under 45 Ipseckey scan_ipseckey (λ tokens place. refl) (ipseckey_printed found) found
    (texts found is has_key)
    (λ tokens has scans. ipseckey_unmarked tokens found (length tokens) scans)

-- ---- a service and its parameters

service_text : (found : Record) → service.IsRecordOfOctets found
    → IsScannedAs svcb_data (svcb.svcb_printed found) found
service_text found is =
    let text = text_again found is in
    record {
      has = text.some;
      scanned = λ tokens are. text.scanned tokens are []
          ∙ ap (done found) (zero-add (length tokens));
      behind = text.scanned;
    }

service_unmarked : (found : Record) (tokens : List (List Symbol))
    → svcb_data tokens 0 ≡ done found (length tokens) → is_marked tokens 0 ≡ false
service_unmarked found tokens scans =
    number_unmarked (2 ^ 16)
    (λ priority target.
    scan_then (name tokens target) (λ labels parameters.
    scan_then (params tokens parameters) (λ pairs end.
    svcb.within_record_limit (record { priority = priority; labels = labels; pairs = pairs }) end)))
    tokens found (length tokens) scans

service_under : (rtype : ℕ) (type : Record → RecordData)
    → ((tokens : List (List Symbol)) (place : ℕ)
    → scan_fields rtype tokens place ≡ scan_as type svcb_data tokens place)
    → (found : Record) → service.IsRecordOfOctets found
    → IsScannedAs (union_scan rtype) (svcb.svcb_printed found) (type found)
service_under rtype type fields found is =
    text_under rtype type svcb_data fields (svcb.svcb_printed found) found (service_text found is)
    (λ tokens has scans. service_unmarked found tokens scans)

-- ---- any type

pub union_text_again : FieldsTextReadBack → TypesAreRows → IpseckeyTextReadBack → UnionTextReadBack
union_text_again texts types ipseckeys (A address) is = a_text_again address is
union_text_again texts types ipseckeys (Aaaa address) is = aaaa_text_again address is
union_text_again texts types ipseckeys (Sshfp found) is =
    fields_text texts 44 Sshfp sshfp types.sshfp_is (λ tokens place. refl) refl found is
union_text_again texts types ipseckeys (Ipseckey found) is = ipseckey_text ipseckeys found is.0 is.1
union_text_again texts types ipseckeys (Tlsa found) is =
    fields_text texts 52 Tlsa tlsa types.tlsa_is (λ tokens place. refl) refl found is
union_text_again texts types ipseckeys (Cds found) is =
    fields_text texts 59 Cds cds types.cds_is (λ tokens place. refl) refl found is
union_text_again texts types ipseckeys (Cdnskey found) is =
    fields_text texts 60 Cdnskey cdnskey types.cdnskey_is (λ tokens place. refl) refl found is
union_text_again texts types ipseckeys (Openpgpkey found) is =
    openpgpkey_text texts types.openpgpkey_is found is
union_text_again texts types ipseckeys (Zonemd found) is =
    fields_text texts 63 Zonemd zonemd types.zonemd_is (λ tokens place. refl) refl found is
union_text_again texts types ipseckeys (Svcb found) is =
    service_under 64 Svcb (λ tokens place. refl) found is
union_text_again texts types ipseckeys (Https found) is =
    service_under 65 Https (λ tokens place. refl) found is
union_text_again texts types ipseckeys (Unknown found) is = unknown_text_again found is.0 is.1
