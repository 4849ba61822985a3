-- The documents of the data of records, and that they are documents. An `impl` that lays one out
-- cites this for its law.
use Rattle.std.specs.Prelude.{List, [], ◌∷◌, length, codes}
use Rattle.std.specs.Fmt.{decimal}
use Rattle.name_spec.specs.Addresses.{ipv4_text, ipv6_text}
use Rattle.text_spec.specs.Encodings.{base16_text}
use Rattle.text_spec.specs.Layouts.{Item, Token, IsDocument}
use Rattle.text_spec.specs.LayoutLaws.{document-tokens}
use Rattle.text_spec.specs.Documents.{unknown_items}
use Rattle.record_spec.specs.Rows.{sshfp, tlsa, cds, cdnskey, openpgpkey, zonemd}
use Rattle.record_spec.specs.Documents.{data_document}
use Rattle.record_spec.specs.IpseckeyTexts.{ipseckey_document}
use Rattle.record_spec.specs.DocumentLaws.{document-sshfp, document-ipseckey, document-tlsa, document-cds, document-cdnskey, document-openpgpkey, document-zonemd}
use Rattle.svcb_spec.specs.DataDocuments.{svcb_document}
use Rattle.svcb_spec.specs.DataDocumentLaws.{document-svcb}
use Rattle.record_spec.specs.RecordData.{RecordData, A, Aaaa, Sshfp, Ipseckey, Tlsa, Cds, Cdnskey, Openpgpkey, Zonemd, Svcb, Https, Unknown}

abbrev pub union_document : RecordData → List Item
union_document (A address) = Token (ipv4_text address) ∷ []
union_document (Aaaa address) = Token (ipv6_text address) ∷ []
union_document (Sshfp found) = data_document sshfp found
union_document (Ipseckey found) = ipseckey_document found
union_document (Tlsa found) = data_document tlsa found
union_document (Cds found) = data_document cds found
union_document (Cdnskey found) = data_document cdnskey found
union_document (Openpgpkey found) = data_document openpgpkey found
union_document (Zonemd found) = data_document zonemd found
union_document (Svcb found) = svcb_document found
union_document (Https found) = svcb_document found
union_document (Unknown found) = unknown_items found.octets

pub document-union : (found : RecordData) → IsDocument (union_document found)
document-union (A address) = document-tokens (ipv4_text address ∷ [])
document-union (Aaaa address) = document-tokens (ipv6_text address ∷ [])
document-union (Sshfp found) = document-sshfp found
document-union (Ipseckey found) = document-ipseckey found
document-union (Tlsa found) = document-tlsa found
document-union (Cds found) = document-cds found
document-union (Cdnskey found) = document-cdnskey found
document-union (Openpgpkey found) = document-openpgpkey found
document-union (Zonemd found) = document-zonemd found
document-union (Svcb found) = document-svcb found
document-union (Https found) = document-svcb found
document-union (Unknown found) =
    document-tokens (codes "\\#" ∷ decimal (length found.octets) ∷ base16_text found.octets ∷ [])
