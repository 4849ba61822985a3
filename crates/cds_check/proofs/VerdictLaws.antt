-- What a verdict says.
use Rattle.std.proofs.Common.{◌≡◌, ℕ, ◌<◌, ◌≤◌, ◌↔◌, Bool, not, ◌&&◌, Option, Some, None, List, [], ◌∷◌, length, get_or, map, take, refl, ◌∙◌, sym, ap, arith}
use Rattle.std.specs.List.{position, list_any}
use Rattle.std.specs.BTreeSet.{BTreeSet}
use Rattle.digest_rdata.specs.declared.cds.CdsFields.{CdsFields}
use Rattle.digest_rdata.specs.declared.cdnskey.CdnskeyFields.{CdnskeyFields}
use Rattle.digest_rdata.specs.FieldsView.{FieldsView}
use Rattle.cds_check.specs.declared.verdict.CdsVerdict.{CdsVerdict}
use Rattle.cds_check.specs.declared.verdict.CdsVerdict.TheVariants.{Agree, CdsAlone, CdnskeyAlone}
use Rattle.cds_check.specs.Verdicts.{has_key, has_cds, verdict_of, cds_verdict, Agrees, IsFirstAlone, IsFirstKeyAlone}
use Rattle.cds_check.specs.Matching.{matches}
use Rattle.cds_check.specs.CdsSets.{has, IsSetOf}
use Rattle.cds_check.proofs.Alone.{all_taken, at_place, position_alike, position_map, alone_at, all_partners, place_of_alone, no_place}
use Rattle.cds_check.proofs.Sets.{each_in_set}

agree_parts : (p q : Option ℕ) → verdict_of p q ≡ Agree → (p ≡ None) × (q ≡ None)
agree_parts (Some i) q h = cc
agree_parts None (Some j) h = cc
agree_parts None None h = (refl, refl)

cds_part : (p q : Option ℕ) (i : ℕ) → verdict_of p q ≡ CdsAlone i → p ≡ Some i
cds_part (Some i) q k h = cc
cds_part None (Some j) k h = cc
cds_part None None k h = cc

key_parts : (p q : Option ℕ) (j : ℕ) → verdict_of p q ≡ CdnskeyAlone j
    → (p ≡ None) × (q ≡ Some j)
key_parts (Some i) q k h = cc
key_parts None (Some j) k h = (refl, cc)
key_parts None None k h = cc

module _ (owner : List (List ℕ)) (cds : List (FieldsView CdsFields))
    (keys : List (FieldsView CdnskeyFields)) where
  pub verdict_agree : (cds_verdict owner cds keys ≡ Agree) ↔ Agrees owner cds keys
  unfolding cds_verdict
  verdict_agree = (
    (λ h.
        let parts = agree_parts _ _ h in
        record {
          each_cds = all_partners (has_key owner keys) cds parts.0;
          each_key = all_partners (has_cds owner cds) keys parts.1;
        }),
    (λ h.
        let no_cds = no_place (has_key owner keys) cds h.each_cds in
        let no_key = no_place (has_cds owner cds) keys h.each_key in
        λ at. verdict_of (no_cds at) (no_key at)),
  )

  pub verdict_cds : (i : ℕ)
      → (cds_verdict owner cds keys ≡ CdsAlone i) ↔ IsFirstAlone (has_key owner keys) cds i
  unfolding cds_verdict
  verdict_cds i = (
    (λ h. alone_at (has_key owner keys) cds i (cds_part _ _ i h)),
    (λ h.
        let place = place_of_alone (has_key owner keys) cds i h in
        λ at. verdict_of (place at) (position (λ key. not (has_cds owner cds key)) keys)),
  )

  pub verdict_key : (j : ℕ)
      → (cds_verdict owner cds keys ≡ CdnskeyAlone j) ↔ IsFirstKeyAlone owner cds keys j
  unfolding cds_verdict
  verdict_key j = (
    (λ h.
        let parts = key_parts _ _ j h in
        record {
          each_cds = all_partners (has_key owner keys) cds parts.0;
          key = alone_at (has_cds owner cds) keys j parts.1;
        }),
    (λ h.
        let no_cds = no_place (has_key owner keys) cds h.each_cds in
        let place = place_of_alone (has_cds owner cds) keys j h.key in
        λ at. verdict_of (no_cds at) (place at)),
  )

  -- the same of a verdict that is known to be this one
  pub says_agree : (verdict : CdsVerdict) → verdict ≡ cds_verdict owner cds keys
      → (verdict ≡ Agree) ↔ Agrees owner cds keys
  says_agree verdict is =
      ((λ h. verdict_agree.0 (sym is ∙ h)), (λ h. is ∙ verdict_agree.1 h))

  pub says_cds : (verdict : CdsVerdict) → verdict ≡ cds_verdict owner cds keys
      → (i : ℕ) → (verdict ≡ CdsAlone i) ↔ IsFirstAlone (has_key owner keys) cds i
  says_cds verdict is i =
      ((λ h. (verdict_cds i).0 (sym is ∙ h)), (λ h. is ∙ (verdict_cds i).1 h))

  pub says_key : (verdict : CdsVerdict) → verdict ≡ cds_verdict owner cds keys
      → (j : ℕ) → (verdict ≡ CdnskeyAlone j) ↔ IsFirstKeyAlone owner cds keys j
  says_key verdict is j =
      ((λ h. (verdict_key j).0 (sym is ∙ h)), (λ h. is ∙ (verdict_key j).1 h))

  -- behind the last key: which CDS are found, and which keys are marked
  pub verdict_found : (asked found : BTreeSet (FieldsView CdsFields)) (marks : List Bool) (n : ℕ)
      (cds_alone key_alone : Option ℕ) → length keys ≤ n → IsSetOf asked cds
      → ((one : FieldsView CdsFields)
      → has found one ≡ (has asked one && list_any (matches owner one) (take n keys)))
      → marks ≡ map (has_cds owner cds) (take n keys)
      → cds_alone ≡ position (λ one. not (has found one)) cds → key_alone ≡ position not marks
      → verdict_of cds_alone key_alone ≡ cds_verdict owner cds keys
  unfolding cds_verdict
  verdict_found asked found marks n cds_alone key_alone long is found_is marks_are first second =
      let all = all_taken n keys long in
      let each = λ (i : ℕ) (d : FieldsView CdsFields) (within : i < length cds).
      found_is (get_or cds i d)
      ∙ ap (λ b. b && list_any (matches owner (get_or cds i d)) (take n keys))
      (each_in_set asked cds i d is within)
      ∙ ap (list_any (matches owner (get_or cds i d))) all in
      let one = first ∙ position_alike (has found) (has_key owner keys) cds each in
      let key = second ∙ ap (position not) marks_are
      ∙ ap (λ some. position not (map (has_cds owner cds) some)) all
      ∙ position_map (has_cds owner cds) keys in
      λ at. verdict_of (one at) (key at)

-- ---- where a list is empty

pub neither : (owner : List (List ℕ)) (cds : List (FieldsView CdsFields))
    (keys : List (FieldsView CdnskeyFields)) → length cds ≡ 0 → length keys ≡ 0
    → Agree ≡ cds_verdict owner cds keys
unfolding cds_verdict
neither owner [] [] h k = refl
neither owner [] (key ∷ keys) h k = absurd (omega (arith, k))
neither owner (one ∷ cds) keys h k = absurd (omega (arith, h))

pub cds_only : (owner : List (List ℕ)) (cds : List (FieldsView CdsFields))
    (keys : List (FieldsView CdnskeyFields)) → 0 < length cds → length keys ≡ 0
    → CdsAlone 0 ≡ cds_verdict owner cds keys
unfolding cds_verdict
cds_only owner [] keys h k = absurd (omega (arith, h))
cds_only owner (one ∷ cds) [] h k =
    sym (ap (λ place. verdict_of place None) (at_place 0 0 (length (one ∷ cds)) refl h))
cds_only owner (one ∷ cds) (key ∷ keys) h k = absurd (omega (arith, k))

pub keys_only : (owner : List (List ℕ)) (cds : List (FieldsView CdsFields))
    (keys : List (FieldsView CdnskeyFields)) → length cds ≡ 0 → 0 < length keys
    → CdnskeyAlone 0 ≡ cds_verdict owner cds keys
unfolding cds_verdict
keys_only owner [] [] h k = absurd (omega (arith, k))
keys_only owner [] (key ∷ keys) h k =
    sym (ap (verdict_of None) (at_place 0 0 (length (key ∷ keys)) refl k))
keys_only owner (one ∷ cds) keys h k = absurd (omega (arith, h))

-- where a list has no elements, nothing is looked up
pub ruleset one_sided = (neither, cds_only, keys_only)
