-- The items of these records are documents. An `impl` that lays one out cites these for its law.
use Rattle.std.specs.Prelude.{◌≡◌, ℕ, true, Some, List, [], ◌∷◌, ◌++◌, refl, codes}
use Rattle.std.specs.Fmt.{decimal}
use Rattle.registry.specs.Tables.{mnemonic_of, is_one_line, is_table, MnemonicsOneLine}
use Rattle.registry.specs.TableLaws.{mnemonic_of-one_line}
use Rattle.key_registry.specs.Tables.{security_algorithms, digest_algorithms, tlsa_selectors, tlsa_matching_types, zonemd_schemes, zonemd_algorithms, ipseckey_algorithms, ipseckey_gateway_types}
use Rattle.text_spec.specs.Layouts.{Token, IsOneLine, IsDocument}
use Rattle.text_spec.specs.LayoutLaws.{document-nil, document-tokens, document-append, document-block}
use Rattle.text_spec.specs.Documents.{number_comment}
use Rattle.text_spec.specs.NumberLaws.{one_line-number_comment}
use Rattle.record_spec.specs.Rows.{Field, Row, Data, plain_number, number_called, registry_number, cds, cdnskey, sshfp, tlsa, zonemd, openpgpkey}
use Rattle.record_spec.specs.Ipseckeys.{Gateway, Ipseckey, gateway_type}
use Rattle.record_spec.specs.IpseckeyTexts.{gateway_text, gateway_document, ipseckey_document}
use Rattle.record_spec.specs.Documents.{number_with_comment, numbers_items, last_field_text, data_document}

-- the items of each number are a document
abbrev pub HaveDocuments : List Field → Type 0
HaveDocuments [] = Unit {0}
HaveDocuments (field ∷ fields) = ((n : ℕ) → IsDocument (number_with_comment n (field.comment n)))
    × HaveDocuments fields

document-numbers : (fields : List Field) (numbers : List ℕ) → HaveDocuments fields
    → IsDocument (numbers_items fields numbers)
document-numbers [] numbers have = document-nil
document-numbers (field ∷ fields) [] have = document-nil
document-numbers (field ∷ fields) (n ∷ numbers) have =
    document-append (number_with_comment n (field.comment n)) (numbers_items fields numbers)
    (have.0 n) (document-numbers fields numbers have.1)

-- and so are those of the data
pub document-data : (row : Row) → HaveDocuments row.fields → (found : Data)
    → IsDocument (data_document row found)
document-data row have found =
    let last = last_field_text row.encoding found.last in
    document-block (numbers_items row.fields found.numbers ++ Token last ∷ [])
    (document-append (numbers_items row.fields found.numbers) (Token last ∷ [])
    (document-numbers row.fields found.numbers have) (document-tokens (last ∷ [])))

-- ---- fields

commented_by : (n : ℕ) (comment : List ℕ) → IsOneLine comment
    → IsDocument (number_with_comment n (Some comment))
commented_by n comment one_line = record { closes = λ b. refl; comments = (one_line, tt) }

no_rows : MnemonicsOneLine []
no_rows n m h = absurd cc

one_line : (text : List ℕ) → is_one_line text ≡ true → IsOneLine text
one_line text h = one_line-number_comment text [] 0 h no_rows

document-plain : (width n : ℕ) → IsDocument (number_with_comment n ((plain_number width).comment n))
document-plain width n = document-tokens (decimal n ∷ [])

document-called : (width : ℕ) (comment : List ℕ) → is_one_line comment ≡ true → (n : ℕ)
    → IsDocument (number_with_comment n ((number_called width comment).comment n))
document-called width comment h n = commented_by n comment (one_line comment h)

document-registered : (name : List ℕ) (rows : List (ℕ × List ℕ)) → is_one_line name ≡ true
    → is_table 256 rows ≡ true → (n : ℕ)
    → IsDocument (number_with_comment n ((registry_number name rows).comment n))
document-registered name rows h table n =
    commented_by n (number_comment name (mnemonic_of rows n))
    (one_line-number_comment name rows n h (mnemonic_of-one_line 256 rows table))

algorithm : (n : ℕ)
    → IsDocument
    (number_with_comment n ((registry_number (codes "algorithm") security_algorithms).comment n))
algorithm = document-registered (codes "algorithm") security_algorithms refl refl

-- ---- the types

pub cds_fields : HaveDocuments cds.fields
cds_fields = (
  document-called 2 (codes "key tag") refl,
  (algorithm, (document-registered (codes "digest type") digest_algorithms refl refl, tt)),
)

pub cdnskey_fields : HaveDocuments cdnskey.fields
cdnskey_fields = (document-plain 2, (document-plain 1, (algorithm, tt)))

pub sshfp_fields : HaveDocuments sshfp.fields
sshfp_fields = (document-plain 1, (document-plain 1, tt))

pub tlsa_fields : HaveDocuments tlsa.fields
tlsa_fields = (
  document-plain 1,
  (
    document-registered (codes "selector") tlsa_selectors refl refl,
    (document-registered (codes "matching type") tlsa_matching_types refl refl, tt),
  ),
)

pub zonemd_fields : HaveDocuments zonemd.fields
zonemd_fields = (
  document-plain 4,
  (
    document-registered (codes "scheme") zonemd_schemes refl refl,
    (document-registered (codes "hash algorithm") zonemd_algorithms refl refl, tt),
  ),
)

pub document-cds : (found : Data) → IsDocument (data_document cds found)
document-cds = document-data cds cds_fields

pub document-cdnskey : (found : Data) → IsDocument (data_document cdnskey found)
document-cdnskey = document-data cdnskey cdnskey_fields

pub document-sshfp : (found : Data) → IsDocument (data_document sshfp found)
document-sshfp = document-data sshfp sshfp_fields

pub document-tlsa : (found : Data) → IsDocument (data_document tlsa found)
document-tlsa = document-data tlsa tlsa_fields

pub document-zonemd : (found : Data) → IsDocument (data_document zonemd found)
document-zonemd = document-data zonemd zonemd_fields

pub document-openpgpkey : (found : Data) → IsDocument (data_document openpgpkey found)
document-openpgpkey = document-data openpgpkey tt

-- ---- IPSECKEY

pub document-gateway : (gateway : Gateway) → IsDocument (gateway_document gateway)
document-gateway gateway = document-tokens (gateway_text gateway ∷ [])

pub document-ipseckey : (found : Ipseckey) → IsDocument (ipseckey_document found)
document-ipseckey found =
    let type = one_line-number_comment (codes "ipseckey gateway type") ipseckey_gateway_types
    (gateway_type found.gateway) refl
    (mnemonic_of-one_line 256 ipseckey_gateway_types refl) in
    let algorithm =
    one_line-number_comment (codes "ipseckey algorithm") ipseckey_algorithms found.algorithm
    refl
    (mnemonic_of-one_line 256 ipseckey_algorithms refl) in
    record {
      closes = λ b. refl;
      comments = (
        one_line (codes "precedence") refl,
        (
          type,
          (
            one_line (codes "gateway type") refl,
            (
              algorithm,
              (
                one_line (codes "algorithm") refl,
                (one_line (codes "gateway") refl, tt),
              ),
            ),
          ),
        ),
      );
    }
