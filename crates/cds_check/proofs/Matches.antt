-- Which CDS matches, and which digest types are taken.
use Rattle.std.proofs.Common.{◌≡◌, ◌≢◌, ℕ, Bool, true, false, not, ◌&&◌, Option, Some, None, List, [], ◌∷◌, refl, ◌==◌, arith}
use Rattle.std.proofs.lemmas.Bool.Decides.{nat_tests}
use Rattle.std.specs.Cmp.Lexicographic.{pointwise}
use Rattle.digest_rdata.specs.declared.cds.CdsFields.{CdsFields}
use Rattle.digest_rdata.specs.declared.cdnskey.CdnskeyFields.{CdnskeyFields}
use Rattle.digest_rdata.specs.FieldsView.{FieldsView}
use Rattle.cds_check.specs.KeyTags.{key_tag}
use Rattle.cds_check.specs.Matching.{digest_by, is_digest, key_digest, matches}

pub both : (a b : Bool) → a ≡ true → b ≡ true → (a && b) ≡ true
both true b h k = k
both false b h k = h

other_type : (digest_type : ℕ) (octets : List ℕ) → digest_type ≢ 2 → digest_type ≢ 4
    → digest_by digest_type octets ≡ None
other_type digest_type octets not_sha256 not_sha384 = grind (arith, nat_tests)

-- a digest is of a type that is taken
pub refused_type : (owner : List (List ℕ)) (key : FieldsView CdnskeyFields) (digest_type : ℕ)
    → digest_type ≢ 2 → digest_type ≢ 4 → key_digest owner key digest_type ≡ None
unfolding key_digest
refused_type owner key digest_type not_sha256 not_sha384 =
    other_type digest_type _ not_sha256 not_sha384

is_sha256 : (octets : List ℕ) → digest_by 2 octets ≡ None → ⊥
is_sha256 octets h = cc

is_sha384 : (octets : List ℕ) → digest_by 4 octets ≡ None → ⊥
is_sha384 octets h = cc

-- where there is no digest, the type is another
pub refused_types : (owner : List (List ℕ)) (key : FieldsView CdnskeyFields) (digest_type : ℕ)
    → key_digest owner key digest_type ≡ None → (digest_type ≢ 2) × (digest_type ≢ 4)
unfolding key_digest
refused_types owner key digest_type h = (
  (λ is. is_sha256 _ (rw is at h)),
  (λ is. is_sha384 _ (rw is at h)),
)

octet_same : (n : ℕ) → (n == n) ≡ true
octet_same n = grind (arith, nat_tests)

pub same : (octets : List ℕ) → pointwise ◌==◌ octets octets ≡ true
same [] = refl
same (octet ∷ octets) = both _ _ (octet_same octet) (same octets)

others : (n m : ℕ) → n ≢ m → not (n == m) ≡ true
others n m h = grind (arith, nat_tests)

digest_same : (octets : List ℕ) (digest : Option (List ℕ)) → digest ≡ Some octets
    → is_digest octets digest ≡ true
digest_same octets None h = cc
digest_same octets (Some digest) h =
    let e : digest ≡ octets = cc in rw e (same octets)

-- the CDS that has a key's fields and its digest is that of the key
pub match_of : (owner : List (List ℕ)) (cds : FieldsView CdsFields) (key : FieldsView CdnskeyFields)
    → cds.fields.key_tag ≡ key_tag key → cds.fields.algorithm ≡ key.fields.algorithm
    → key.fields.algorithm ≢ 1 → key_digest owner key cds.fields.digest_type ≡ Some cds.last
    → matches owner cds key ≡ true
unfolding matches
match_of owner cds key tag algorithm apart digest =
    let one : (cds.fields.algorithm == key.fields.algorithm) ≡ true =
    rw algorithm (octet_same key.fields.algorithm) in
    let other : not (cds.fields.algorithm == 1) ≡ true =
    rw algorithm (others key.fields.algorithm 1 apart) in
    let tagged : (cds.fields.key_tag == key_tag key) ≡ true = rw tag (octet_same (key_tag key)) in
    let digested : is_digest cds.last (key_digest owner key cds.fields.digest_type) ≡ true =
    digest_same cds.last _ digest in
    grind arith

-- which refusals come, and that what is made matches
pub ruleset made_rules = (refused_type, refused_types, match_of)
