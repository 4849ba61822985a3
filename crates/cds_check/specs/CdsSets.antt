-- The CDS of keys, and sets of CDS.
use Rattle.std.specs.Prelude.{◌≡◌, ℕ, Bool, true, false, Option, Some, None, List, [], ◌∷◌, ◌==◌, if◌then◌else◌}
use Rattle.std.specs.List.{list_any}
use Rattle.std.specs.Option.{option_map}
use Rattle.std.specs.Ordering.{nat_cmp, on, ordering_then}
use Rattle.std.specs.BTreeSet.{BTreeSet, contains}
use Rattle.std.specs.declared.cmp.Ordering.{Ordering}
use Rattle.record_spec.specs.Comparing.{fields_cmp, is_same_fields}
use Rattle.digest_rdata.specs.declared.cds.CdsFields.{CdsFields}
use Rattle.digest_rdata.specs.declared.cdnskey.CdnskeyFields.{CdnskeyFields}
use Rattle.digest_rdata.specs.FieldsView.{FieldsView, data_of}
use Rattle.cds_check.specs.KeyTags.{key_tag}
use Rattle.cds_check.specs.Matching.{key_digest}

-- the fixed fields in wire order
abbrev pub cds_numbers : CdsFields → List ℕ
cds_numbers fields = fields.key_tag ∷ fields.algorithm ∷ fields.digest_type ∷ []

-- how CDS are ordered
abbrev pub cds_cmp : FieldsView CdsFields → FieldsView CdsFields → Ordering
cds_cmp = on (data_of cds_numbers) fields_cmp

-- whether two CDS have the same fields and digest
abbrev pub is_same_cds : FieldsView CdsFields → FieldsView CdsFields → Bool
is_same_cds = on (data_of cds_numbers) is_same_fields

-- how fixed fields are ordered
abbrev pub kind_cmp : CdsFields → CdsFields → Ordering
kind_cmp kind other =
    ordering_then (nat_cmp kind.key_tag other.key_tag)
    (ordering_then (nat_cmp kind.algorithm other.algorithm)
    (nat_cmp kind.digest_type other.digest_type))

-- ---- the CDS of keys

-- the fixed fields of a key's CDS with a digest of this type
abbrev pub kind_of : FieldsView CdnskeyFields → ℕ → CdsFields
kind_of key digest_type = record {
  key_tag = key_tag key;
  algorithm = key.fields.algorithm;
  digest_type = digest_type;
}

-- the CDS of a key under an owner, with a digest of this type; there is none for RSA/MD5 (1)
unfoldable pub cds_of : List (List ℕ) → FieldsView CdnskeyFields → ℕ → Option (FieldsView CdsFields)
cds_of owner key digest_type =
    if key.fields.algorithm == 1 then None
    else option_map (λ digest. record { fields = kind_of key digest_type; last = digest })
    (key_digest owner key digest_type)

-- whether a CDS is this one, if there is one
abbrev pub is_cds : FieldsView CdsFields → Option (FieldsView CdsFields) → Bool
is_cds one None = false
is_cds one (Some made) = is_same_cds one made

-- ---- sets

-- whether a set has a CDS
abbrev pub has : BTreeSet (FieldsView CdsFields) → FieldsView CdsFields → Bool
has set one = contains cds_cmp set one

-- whether it has this one, if there is one
abbrev pub has_made : BTreeSet (FieldsView CdsFields) → Option (FieldsView CdsFields) → Bool
has_made set None = false
has_made set (Some made) = has set made

-- a set has exactly the CDS of a list
abbrev pub IsSetOf : BTreeSet (FieldsView CdsFields) → List (FieldsView CdsFields) → Type 0
IsSetOf set cds = (one : FieldsView CdsFields)
    → has set one ≡ list_any (λ other. is_same_cds other one) cds

-- a set of fixed fields has those of each CDS of a set
abbrev pub Covers : BTreeSet CdsFields → BTreeSet (FieldsView CdsFields) → Type 0
Covers kinds cds = (one : FieldsView CdsFields) → has cds one ≡ true
    → contains kind_cmp kinds one.fields ≡ true
