-- Whether CDS and CDNSKEY records ask for the same keys (RFC 7344, section 4).
use Rattle.std.specs.Prelude.{◌≡◌, ◌<◌, ℕ, Bool, true, false, not, Option, Some, None, List, length}
use Rattle.std.specs.List.{list_any, position, AllPass, AllWithin, HoldsAt}
use Rattle.digest_rdata.specs.declared.cds.CdsFields.{CdsFields}
use Rattle.digest_rdata.specs.declared.cdnskey.CdnskeyFields.{CdnskeyFields}
use Rattle.digest_rdata.specs.FieldsView.{FieldsView}
use Rattle.cds_check.specs.declared.verdict.CdsVerdict.{CdsVerdict}
use Rattle.cds_check.specs.declared.verdict.CdsVerdict.TheVariants.{Agree, CdsAlone, CdnskeyAlone}
use Rattle.cds_check.specs.Matching.{matches}

-- whether a CDS matches one of the keys
abbrev pub has_key :
    List (List ℕ) → List (FieldsView CdnskeyFields) → FieldsView CdsFields → Bool
has_key owner keys cds = list_any (matches owner cds) keys

-- whether a key is matched by one of the CDS
abbrev pub has_cds :
    List (List ℕ) → List (FieldsView CdsFields) → FieldsView CdnskeyFields → Bool
has_cds owner cds key = list_any (λ one. matches owner one key) cds

-- the first CDS without a key decides, then the first key without a CDS
abbrev pub verdict_of : Option ℕ → Option ℕ → CdsVerdict
verdict_of (Some i) alone = CdsAlone i
verdict_of None (Some j) = CdnskeyAlone j
verdict_of None None = Agree

-- the verdict on CDS and keys under an owner; places count from 0
unfoldable pub cds_verdict :
    List (List ℕ) → List (FieldsView CdsFields) → List (FieldsView CdnskeyFields) → CdsVerdict
cds_verdict owner cds keys =
    verdict_of (position (λ one. not (has_key owner keys one)) cds)
    (position (λ key. not (has_cds owner cds key)) keys)

-- ---- what a caller asks of a verdict

-- each CDS has its key, and each key its CDS
pub record Agrees (owner : List (List ℕ)) (cds : List (FieldsView CdsFields))
    (keys : List (FieldsView CdnskeyFields)) : Type 0 where
  pub each_cds : AllPass (has_key owner keys) cds
  pub each_key : AllPass (has_cds owner cds) keys

-- the element at this place is the first without a partner
pub record IsFirstAlone {A : Type 0} (has_partner : A → Bool) (elements : List A) (place : ℕ)
    : Type 0 where
  pub within : place < length elements
  pub alone : HoldsAt (λ element. has_partner element ≡ false) elements place
  pub before : AllWithin (λ element. has_partner element ≡ true) elements 0 place

-- each CDS has its key, and this key is the first without its CDS
pub record IsFirstKeyAlone (owner : List (List ℕ)) (cds : List (FieldsView CdsFields))
    (keys : List (FieldsView CdnskeyFields)) (place : ℕ) : Type 0 where
  pub each_cds : AllPass (has_key owner keys) cds
  pub key : IsFirstAlone (has_cds owner cds) keys place
