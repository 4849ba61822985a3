-- Whether a zone has the digest of a ZONEMD record (RFC 8976, section 4).
use Rattle.std.specs.Prelude.{◌≡◌, ◌≢◌, ℕ, ◌==◌, ◌⊎◌, Option, Some, None, List, if◌then◌else◌}
use Rattle.std.specs.Cmp.Lexicographic.{pointwise}
use Rattle.digest_rdata.specs.declared.zonemd.ZonemdFields.{ZonemdFields}
use Rattle.digest_rdata.specs.FieldsView.{FieldsView}
use Rattle.zonemd_check.specs.ZoneRecordView.{ZoneRecordView}
use Rattle.zonemd_check.specs.Digesting.{zone_digest}
use Rattle.zonemd_check.specs.declared.verdict.ZonemdVerdict.{ZonemdVerdict}
use Rattle.zonemd_check.specs.declared.verdict.ZonemdVerdict.TheVariants.{Match, Mismatch, Unsupported}

-- a published digest against that of the zone, if there is one; whole digests are compared
abbrev pub verdict_of : List ℕ → Option (List ℕ) → ZonemdVerdict
verdict_of published None = Unsupported
verdict_of published (Some digest) =
    if pointwise ◌==◌ digest published then Match else Mismatch

-- the verdict on a zone under its apex
unfoldable pub zonemd_verdict :
    List (List ℕ) → List ZoneRecordView → FieldsView ZonemdFields → ZonemdVerdict
zonemd_verdict apex records zonemd =
    if zonemd.fields.scheme == 1
    then verdict_of zonemd.last (zone_digest apex records zonemd.fields.algorithm)
    else Unsupported

-- ---- what a caller asks of a verdict

-- another scheme than SIMPLE, or another algorithm than SHA-384 and SHA-512
abbrev pub IsUnsupported : ZonemdFields → Type 0
IsUnsupported fields =
    (fields.scheme ≢ 1) ⊎ ((fields.algorithm ≢ 1) × (fields.algorithm ≢ 2))

-- the scheme is SIMPLE, and the algorithm SHA-384 or SHA-512
pub record IsSupported (fields : ZonemdFields) : Type 0 where
  pub scheme : fields.scheme ≡ 1
  pub algorithm : (fields.algorithm ≡ 1) ⊎ (fields.algorithm ≡ 2)

-- the scheme is SIMPLE, and the zone has the published digest
pub record HasDigest (apex : List (List ℕ)) (records : List ZoneRecordView)
    (zonemd : FieldsView ZonemdFields) : Type 0 where
  pub scheme : zonemd.fields.scheme ≡ 1
  pub is_digest : zone_digest apex records zonemd.fields.algorithm ≡ Some zonemd.last

-- the scheme is SIMPLE, and the zone has another digest than the published one
pub record HasOther (apex : List (List ℕ)) (records : List ZoneRecordView)
    (zonemd : FieldsView ZonemdFields) : Type 0 where
  pub digest : List ℕ
  pub scheme : zonemd.fields.scheme ≡ 1
  pub is_digest : zone_digest apex records zonemd.fields.algorithm ≡ Some digest
  pub is_other : digest ≢ zonemd.last
