-- Sets of CDS.
use Rattle.std.proofs.Common.{◌≡◌, ℕ, ◌+◌, ◌<◌, Bool, true, false, cond, ◌&&◌, ◌||◌, Option, Some, None, List, [], ◌∷◌, ◌++◌, length, get_or, take, map, refl, sym, ap, ◌∙◌}
use Rattle.std.specs.List.{list_any}
use Rattle.std.specs.BTreeMap.{is_at}
use Rattle.std.specs.BTreeSet.{BTreeSet, Updates, contains}
use Rattle.std.proofs.lemmas.List.{take_more, map-append}
use Rattle.std.proofs.lemmas.List.Folds.{list_any_more, list_any_at}
use Rattle.record_spec.specs.Comparing.{same_fields_ties}
use Rattle.digest_rdata.specs.declared.cds.CdsFields.{CdsFields}
use Rattle.digest_rdata.specs.declared.cdnskey.CdnskeyFields.{CdnskeyFields}
use Rattle.digest_rdata.specs.FieldsView.{FieldsView, data_of}
use Rattle.cds_check.specs.Matching.{matches}
use Rattle.cds_check.specs.Verdicts.{has_cds}
use Rattle.cds_check.specs.CdsSets.{cds_numbers, cds_cmp, kind_cmp, is_same_cds, cds_of, kind_of, is_cds, has, has_made, Covers, IsSetOf}
use Rattle.cds_check.proofs.Made.{same_cds, same_itself, made_kind, matches_by_type}

-- a key of a set is found by its data
ties : (one other : FieldsView CdsFields) → is_at (cds_cmp one) other ≡ is_same_cds one other
ties one other =
    sym (same_fields_ties (data_of cds_numbers one) (data_of cds_numbers other))

same_turned : (one other : FieldsView CdsFields) → is_same_cds one other ≡ is_same_cds other one
same_turned one other = by (is_same_cds one other) (is_same_cds other one) refl refl
  where
    by : (a b : Bool) → is_same_cds one other ≡ a → is_same_cds other one ≡ b → a ≡ b
    by true true e f = refl
    by false false e f = refl
    by true false e f =
        let same = same_cds one other e in
        let turned : is_same_cds other one ≡ true =
        ap (λ (c : FieldsView CdsFields). is_same_cds other c) same ∙ same_itself other in
        absurd cc
    by false true e f =
        let same = same_cds other one f in
        let turned : is_same_cds one other ≡ true =
        ap (λ (c : FieldsView CdsFields). is_same_cds one c) same ∙ same_itself one in
        absurd cc

-- ---- the set of a list

or_last : (a b : Bool) → cond a true b ≡ (b || a)
or_last true true = refl
or_last true false = refl
or_last false true = refl
or_last false false = refl

-- one CDS more
pub set_more : (old new : BTreeSet (FieldsView CdsFields)) (cds : List (FieldsView CdsFields))
    (i : ℕ) (one d : FieldsView CdsFields) → i < length cds → one ≡ get_or cds i d
    → IsSetOf old (take i cds) → Updates cds_cmp old new one true
    → IsSetOf new (take (i + 1) cds)
set_more old new cds i one d within is before updates other =
    updates.0 other
    ∙ ap (λ b. cond b true (has old other)) (ties one other)
    ∙ or_last (is_same_cds one other) (has old other)
    ∙ ap (λ b. b || is_same_cds one other) (before other)
    ∙ ap (λ (c : FieldsView CdsFields).
    list_any (λ found. is_same_cds found other) (take i cds) || is_same_cds c other) is
    ∙ sym (list_any_more (λ found. is_same_cds found other) cds i d within)

-- it has each of them
pub each_in_set : (set : BTreeSet (FieldsView CdsFields)) (cds : List (FieldsView CdsFields))
    (i : ℕ) (d : FieldsView CdsFields) → IsSetOf set cds → i < length cds
    → has set (get_or cds i d) ≡ true
each_in_set set cds i d is within =
    is (get_or cds i d)
    ∙ list_any_at (λ found. is_same_cds found (get_or cds i d)) cds i d within
    (same_itself (get_or cds i d))

-- ---- a CDS that is found

put_bool : (old asked at same : Bool) → at ≡ same → (same ≡ true → asked ≡ true)
    → cond at true old ≡ (old || (asked && same))
put_bool true asked true same e h = refl
put_bool true asked false same e h = refl
put_bool false asked at true e h = rw (e, h refl) refl
put_bool false true at false e h = rw e refl
put_bool false false at false e h = rw e refl

skip_bool : (old asked same : Bool) → (same ≡ true → asked ≡ false) → old ≡ (old || (asked && same))
skip_bool true asked same h = refl
skip_bool false true true h = sym (h refl)
skip_bool false true false h = refl
skip_bool false false same h = refl

module _ (old asked : BTreeSet (FieldsView CdsFields)) where
  alike_asked : (made one : FieldsView CdsFields) (b : Bool) → has asked made ≡ b
      → is_same_cds one made ≡ true → has asked one ≡ b
  alike_asked made one b is same = ap (has asked) (same_cds one made same) ∙ is

  -- that is asked for
  pub put_found : (new : BTreeSet (FieldsView CdsFields)) (given : Option (FieldsView CdsFields))
      (made one : FieldsView CdsFields) → Some made ≡ given → has asked made ≡ true
      → Updates cds_cmp old new made true
      → has new one ≡ (has old one || (has asked one && is_cds one given))
  put_found new given made one is known updates =
      updates.0 one
      ∙ put_bool (has old one) (has asked one) (is_at (cds_cmp made) one) (is_same_cds one made)
      (ties made one ∙ same_turned made one) (alike_asked made one true known)
      ∙ ap (λ (o : Option (FieldsView CdsFields)). has old one || (has asked one && is_cds one o)) is

  none_bool : (a b : Bool) → a ≡ (a || (b && false))
  none_bool true b = refl
  none_bool false true = refl
  none_bool false false = refl

  -- that isn't, or isn't there
  pub skip_found : (given : Option (FieldsView CdsFields)) (one : FieldsView CdsFields)
      → has_made asked given ≡ false
      → has old one ≡ (has old one || (has asked one && is_cds one given))
  skip_found None one unknown = none_bool (has old one) (has asked one)
  skip_found (Some made) one unknown =
      skip_bool (has old one) (has asked one) (is_same_cds one made)
      (alike_asked made one false unknown)

-- ---- fixed fields

always : (b : Bool) → cond b true true ≡ true
always true = refl
always false = refl

-- those of a CDS more
pub covers_more : (old_kinds new_kinds : BTreeSet CdsFields)
    (old new : BTreeSet (FieldsView CdsFields)) (kind : CdsFields) (one : FieldsView CdsFields)
    → kind ≡ one.fields → Covers old_kinds old → Updates kind_cmp old_kinds new_kinds kind true
    → Updates cds_cmp old new one true → Covers new_kinds new
covers_more old_kinds new_kinds old new kind one is before kinds_more more other h =
    by (is_at (cds_cmp one) other) refl
  where
    by : (b : Bool) → is_at (cds_cmp one) other ≡ b
        → contains kind_cmp new_kinds other.fields ≡ true
    by true e =
        let same = same_cds one other (sym (ties one other) ∙ e) in
        ap (contains kind_cmp new_kinds)
        (sym (is ∙ ap (λ (c : FieldsView CdsFields). c.fields) same))
        ∙ kinds_more.1
    by false e =
        kinds_more.0 other.fields
        ∙ ap (cond (is_at (kind_cmp kind) other.fields) true)
        (before other (sym (more.2 other e) ∙ h))
        ∙ always (is_at (kind_cmp kind) other.fields)

-- a CDS whose fixed fields aren't there isn't there
pub no_kind : (owner : List (List ℕ)) (key : FieldsView CdnskeyFields) (digest_type : ℕ)
    (kinds : BTreeSet CdsFields) (asked : BTreeSet (FieldsView CdsFields)) → Covers kinds asked
    → contains kind_cmp kinds (kind_of key digest_type) ≡ false
    → has_made asked (cds_of owner key digest_type) ≡ false
no_kind owner key digest_type kinds asked covers unknown = by (cds_of owner key digest_type) refl
  where
    known : (made : FieldsView CdsFields) (b : Bool) → has asked made ≡ b
        → contains kind_cmp kinds made.fields ≡ false → b ≡ false
    known made true e none = sym (covers made e) ∙ none
    known made false e none = refl

    by : (o : Option (FieldsView CdsFields)) → cds_of owner key digest_type ≡ o
        → has_made asked o ≡ false
    by None e = refl
    by (Some made) e =
        known made (has asked made) refl
        (ap (contains kind_cmp kinds) (sym (made_kind owner key digest_type made e)) ∙ unknown)

-- ---- by both digest types

join_bool : (old asked a b : Bool)
    → ((old || (asked && a)) || (asked && b)) ≡ (old || (asked && (a || b)))
join_bool true asked a b = refl
join_bool false true a b = refl
join_bool false false a b = refl

pub both_found : (owner : List (List ℕ)) (key : FieldsView CdnskeyFields)
    (old middle new asked : BTreeSet (FieldsView CdsFields)) (one : FieldsView CdsFields)
    → has middle one ≡ (has old one || (has asked one && is_cds one (cds_of owner key 2)))
    → has new one ≡ (has middle one || (has asked one && is_cds one (cds_of owner key 4)))
    → has new one ≡ (has old one || (has asked one && matches owner one key))
both_found owner key old middle new asked one first second =
    second
    ∙ ap (λ b. b || (has asked one && is_cds one (cds_of owner key 4))) first
    ∙ join_bool (has old one) (has asked one) (is_cds one (cds_of owner key 2))
    (is_cds one (cds_of owner key 4))
    ∙ ap (λ b. has old one || (has asked one && b)) (sym (matches_by_type owner one key))

or_or : (a b p q : Bool) → ((a || b) || (p || q)) ≡ ((a || p) || (b || q))
or_or true b p q = refl
or_or false true true q = refl
or_or false true false q = refl
or_or false false p q = refl

any_or : {A : Type 0} (p q : A → Bool) (xs : List A)
    → list_any (λ x. p x || q x) xs ≡ (list_any p xs || list_any q xs)
any_or p q [] = refl
any_or p q (x ∷ xs) =
    ap (λ b. (p x || q x) || b) (any_or p q xs)
    ∙ or_or (p x) (q x) (list_any p xs) (list_any q xs)

any_none : {A : Type 0} (xs : List A) → false ≡ list_any (λ _. false) xs
any_none [] = refl
any_none (x ∷ xs) = any_none xs

made_listed : (asked : BTreeSet (FieldsView CdsFields)) (cds : List (FieldsView CdsFields))
    (given : Option (FieldsView CdsFields)) → IsSetOf asked cds
    → has_made asked given ≡ list_any (λ one. is_cds one given) cds
made_listed asked cds None is = any_none cds
made_listed asked cds (Some made) is = is made

-- a key has its CDS where one of its two is asked for
pub mark_is : (owner : List (List ℕ)) (key : FieldsView CdnskeyFields)
    (asked : BTreeSet (FieldsView CdsFields)) (cds : List (FieldsView CdsFields)) → IsSetOf asked cds
    → (has_made asked (cds_of owner key 2) || has_made asked (cds_of owner key 4))
    ≡ has_cds owner cds key
mark_is owner key asked cds is =
    let first = made_listed asked cds (cds_of owner key 2) is in
    let second = made_listed asked cds (cds_of owner key 4) is in
    (λ i. first i || second i)
    ∙ sym (any_or (λ one. is_cds one (cds_of owner key 2)) (λ one. is_cds one (cds_of owner key 4)) cds)
    ∙ (sym (λ i. list_any (λ one. matches_by_type owner one key i) cds))

-- ---- a key more

more_bool : (asked a b : Bool) → ((asked && a) || (asked && b)) ≡ (asked && (a || b))
more_bool true a b = refl
more_bool false a b = refl

pub found_more : (owner : List (List ℕ)) (old new asked : BTreeSet (FieldsView CdsFields))
    (keys : List (FieldsView CdnskeyFields)) (j : ℕ) (key : FieldsView CdnskeyFields)
    (one : FieldsView CdsFields) → j < length keys → key ≡ get_or keys j key
    → has old one ≡ (has asked one && list_any (matches owner one) (take j keys))
    → has new one ≡ (has old one || (has asked one && matches owner one key))
    → has new one ≡ (has asked one && list_any (matches owner one) (take (j + 1) keys))
found_more owner old new asked keys j key one within is before added =
    added
    ∙ ap (λ b. b || (has asked one && matches owner one key)) before
    ∙ more_bool (has asked one) (list_any (matches owner one) (take j keys)) (matches owner one key)
    ∙ ap (λ (k : FieldsView CdnskeyFields).
    has asked one && (list_any (matches owner one) (take j keys) || matches owner one k)) is
    ∙ ap (λ b. has asked one && b) (sym (list_any_more (matches owner one) keys j key within))

pub marks_more : {K : Type 0} (test : K → Bool) (keys : List K) (j : ℕ) (key : K) (marks : List Bool)
    (mark : Bool) → j < length keys → key ≡ get_or keys j key → marks ≡ map test (take j keys)
    → mark ≡ test key → marks ++ mark ∷ [] ≡ map test (take (j + 1) keys)
marks_more test keys j key marks mark within is before h =
    (λ i. before i ++ h i ∷ [])
    ∙ ap (λ k. map test (take j keys) ++ test k ∷ []) is
    ∙ sym (map-append test (take j keys) (get_or keys j key ∷ []))
    ∙ ap (map test) (sym (take_more keys j key within))
