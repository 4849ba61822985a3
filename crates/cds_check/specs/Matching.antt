-- Which CDS stands for which CDNSKEY (RFC 7344, section 4; RFC 4034, section 5.1.4).
use Rattle.std.specs.Prelude.{ℕ, Bool, false, not, ◌&&◌, Option, Some, None, List, ◌++◌, ◌==◌, if◌then◌else◌}
use Rattle.std.specs.Cmp.Lexicographic.{pointwise}
use Rattle.sha2.specs.Sha256.{sha256}
use Rattle.sha2.specs.Sha512.{sha384}
use Rattle.name_spec.specs.OwnedNames.{lowered_wire}
use Rattle.digest_rdata.specs.declared.cds.CdsFields.{CdsFields}
use Rattle.digest_rdata.specs.declared.cdnskey.CdnskeyFields.{CdnskeyFields}
use Rattle.digest_rdata.specs.FieldsView.{FieldsView}
use Rattle.cds_check.specs.KeyTags.{key_octets, key_tag}

-- what is digested: the owner's octets in lower case, and the octets of the key
abbrev pub digested : List (List ℕ) → FieldsView CdnskeyFields → List ℕ
digested owner key = lowered_wire owner ++ key_octets key

-- the digest of octets by the algorithm with this number; only SHA-256 (RFC 4509) and SHA-384 (RFC
-- 6605) are taken
abbrev pub digest_by : ℕ → List ℕ → Option (List ℕ)
digest_by digest_type octets =
    if digest_type == 2 then Some (sha256 octets)
    else if digest_type == 4 then Some (sha384 octets)
    else None

-- the digest of a key under an owner
unfoldable pub key_digest : List (List ℕ) → FieldsView CdnskeyFields → ℕ → Option (List ℕ)
key_digest owner key digest_type = digest_by digest_type (digested owner key)

-- whether octets are this digest, if there is one
abbrev pub is_digest : List ℕ → Option (List ℕ) → Bool
is_digest octets None = false
is_digest octets (Some digest) = pointwise ◌==◌ octets digest

-- Whether a CDS is that of a key under an owner: they have one algorithm, which is not RSA/MD5 (1),
-- and the CDS has the key's tag and its digest.
unfoldable pub matches :
    List (List ℕ) → FieldsView CdsFields → FieldsView CdnskeyFields → Bool
matches owner cds key =
    cds.fields.algorithm == key.fields.algorithm
    && not (cds.fields.algorithm == 1)
    && cds.fields.key_tag == key_tag key
    && is_digest cds.last (key_digest owner key cds.fields.digest_type)
