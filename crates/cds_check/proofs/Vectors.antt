-- Worked inputs, which the check computes.
use Rattle.std.proofs.Common.{◌≡◌, ℕ, List, [], ◌∷◌, refl}
use Rattle.digest_rdata.specs.declared.cds.CdsFields.{CdsFields}
use Rattle.digest_rdata.specs.declared.cdnskey.CdnskeyFields.{CdnskeyFields}
use Rattle.digest_rdata.specs.FieldsView.{FieldsView}
use Rattle.cds_check.specs.declared.verdict.CdsVerdict.TheVariants.{Agree, CdsAlone, CdnskeyAlone}
use Rattle.cds_check.specs.KeyTags.{key_tag}
use Rattle.cds_check.specs.Verdicts.{cds_verdict}

-- 000a 0b 05 6b6579
key : FieldsView CdnskeyFields
key = record {
  fields = record { flags = 10; protocol = 11; algorithm = 5 };
  last = 0x6b ∷ 0x65 ∷ 0x79 ∷ [];
}

tag : key_tag key ≡ 61300
unfolding key_tag key
tag = refl

-- the sum is 196,350, whose carry of 2 is added
tag_with_carry : key_tag (record {
  fields = record { flags = 65535; protocol = 255; algorithm = 255 };
  last = 0xff ∷ [];
}) ≡ 65280
unfolding key_tag
tag_with_carry = refl

no_records : (owner : List (List ℕ)) → cds_verdict owner [] [] ≡ Agree
unfolding cds_verdict
no_records owner = refl

no_cds : (owner : List (List ℕ)) → cds_verdict owner [] (key ∷ key ∷ []) ≡ CdnskeyAlone 0
unfolding cds_verdict
no_cds owner = refl

no_keys : (owner : List (List ℕ)) (cds : FieldsView CdsFields)
    → cds_verdict owner (cds ∷ []) [] ≡ CdsAlone 0
unfolding cds_verdict
no_keys owner cds = refl
