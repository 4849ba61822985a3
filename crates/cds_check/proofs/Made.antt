-- A CDS matches a key exactly where it is the key's by one of the digest types.
use Rattle.std.proofs.Common.{◌≡◌, ◌≢◌, ◌⊎◌, inl, inr, ℕ, Bool, true, false, not, ◌&&◌, ◌||◌, Option, Some, None, List, get_or, refl, sym, ap, subst, ◌∙◌, ◌==◌, arith}
use Rattle.std.specs.Prelude.{if◌then◌else◌}
use Rattle.std.specs.Option.{option_map}
use Rattle.std.specs.Cmp.Lexicographic.{bytes_decides}
use Rattle.std.proofs.lemmas.Bool.{and_parts}
use Rattle.std.proofs.lemmas.Bool.Decides.{nat_tests}
use Rattle.record_spec.specs.Rows.{Data}
use Rattle.record_spec.specs.Comparing.{same_fields}
use Rattle.digest_rdata.specs.declared.cds.CdsFields.{CdsFields}
use Rattle.digest_rdata.specs.declared.cdnskey.CdnskeyFields.{CdnskeyFields}
use Rattle.digest_rdata.specs.FieldsView.{FieldsView, data_of}
use Rattle.cds_check.specs.KeyTags.{key_tag}
use Rattle.cds_check.specs.Matching.{is_digest, key_digest, matches}
use Rattle.cds_check.specs.CdsSets.{cds_numbers, cds_of, kind_of, is_cds, is_same_cds}
use Rattle.cds_check.proofs.Matches.{both, match_of, refused_type, same}

-- ---- the same CDS

cds_back : Data → FieldsView CdsFields
cds_back found = record {
  fields = record {
    key_tag = get_or found.numbers 0 0;
    algorithm = get_or found.numbers 1 0;
    digest_type = get_or found.numbers 2 0;
  };
  last = found.last;
}

pub same_cds : (one other : FieldsView CdsFields) → is_same_cds one other ≡ true → one ≡ other
unfolding cds_back
same_cds one other is =
    ap cds_back (same_fields (data_of cds_numbers one) (data_of cds_numbers other) is)

pub same_itself : (one : FieldsView CdsFields) → is_same_cds one one ≡ true
same_itself one = both _ _ (same (cds_numbers one.fields)) (same one.last)

is_made : (one : FieldsView CdsFields) (made : Option (FieldsView CdsFields))
    → is_cds one made ≡ true → made ≡ Some one
is_made one None h = cc
is_made one (Some made) h = ap Some (sym (same_cds one made h))

made_is_cds : (one : FieldsView CdsFields) (made : Option (FieldsView CdsFields))
    → made ≡ Some one → is_cds one made ≡ true
made_is_cds one made h = rw h (same_itself one)

-- ---- what is made

abbrev unless : {A : Type 0} → Bool → (List ℕ → A) → Option (List ℕ) → Option A
unless b f digest = if b then None else option_map f digest

unless_some : {A : Type 0} (b : Bool) (f : List ℕ → A) (digest : Option (List ℕ)) (made : A)
    → unless b f digest ≡ Some made
    → (b ≡ false) × (octets : List ℕ) × (digest ≡ Some octets) × (f octets ≡ made)
unless_some true f digest made h = absurd cc
unless_some false f None made h = absurd cc
unless_some false f (Some octets) made h = (refl, octets, refl, cc)

some_unless : {A : Type 0} (b : Bool) (f : List ℕ → A) (digest : Option (List ℕ)) (octets : List ℕ)
    (made : A) → b ≡ false → digest ≡ Some octets → f octets ≡ made
    → unless b f digest ≡ Some made
some_unless true f digest octets made h is same = absurd cc
some_unless false f digest octets made h is same = ap (option_map f) is ∙ ap Some same

none_unless : {A : Type 0} (b : Bool) (f : List ℕ → A) (digest : Option (List ℕ))
    → digest ≡ None → None ≡ unless b f digest
none_unless true f digest h = refl
none_unless false f digest h = sym (ap (option_map f) h)

number_same : (n m : ℕ) → (n == m) ≡ true → n ≡ m
number_same n m h = grind (arith, nat_tests)

number_other : (n m : ℕ) → (n == m) ≡ false → n ≢ m
number_other n m h = grind (arith, nat_tests)

other_number : (n m : ℕ) → n ≢ m → (n == m) ≡ false
other_number n m h = grind (arith, nat_tests)

this_number : (n m : ℕ) → n ≡ m → (n == m) ≡ true
this_number n m h = grind (arith, nat_tests)

abbrev cds_with : FieldsView CdnskeyFields → ℕ → List ℕ → FieldsView CdsFields
cds_with key digest_type digest = record { fields = kind_of key digest_type; last = digest }

with_fields : (key : FieldsView CdnskeyFields) (digest_type : ℕ) (made : FieldsView CdsFields)
    → made.fields ≡ kind_of key digest_type
    → cds_with key digest_type made.last ≡ made
with_fields key digest_type made is =
    sym (ap (λ (fields : CdsFields). record { fields = fields; last = made.last }) is)

pub made_some : (owner : List (List ℕ)) (key : FieldsView CdnskeyFields) (digest_type : ℕ)
    (made : FieldsView CdsFields)
    → made.fields ≡ kind_of key digest_type
    → key_digest owner key digest_type ≡ Some made.last → key.fields.algorithm ≢ 1
    → Some made ≡ cds_of owner key digest_type
unfolding cds_of
made_some owner key digest_type made fields digest apart =
    sym (some_unless (key.fields.algorithm == 1) (cds_with key digest_type)
    (key_digest owner key digest_type) made.last made (other_number key.fields.algorithm 1 apart)
    digest (with_fields key digest_type made fields))

pub no_algorithm : (owner : List (List ℕ)) (key : FieldsView CdnskeyFields) (digest_type : ℕ)
    → key.fields.algorithm ≡ 1 → None ≡ cds_of owner key digest_type
unfolding cds_of
no_algorithm owner key digest_type h =
    ap (λ b. unless b (cds_with key digest_type) (key_digest owner key digest_type))
    (sym (this_number key.fields.algorithm 1 h))

pub no_type : (owner : List (List ℕ)) (key : FieldsView CdnskeyFields) (digest_type : ℕ)
    → digest_type ≢ 2 → digest_type ≢ 4 → None ≡ cds_of owner key digest_type
unfolding cds_of
no_type owner key digest_type not_sha256 not_sha384 =
    none_unless (key.fields.algorithm == 1) (cds_with key digest_type) _
    (refused_type owner key digest_type not_sha256 not_sha384)

-- what is made has the key's tag and algorithm, and the digest type
pub made_kind : (owner : List (List ℕ)) (key : FieldsView CdnskeyFields) (digest_type : ℕ)
    (made : FieldsView CdsFields) → cds_of owner key digest_type ≡ Some made
    → kind_of key digest_type ≡ made.fields
unfolding cds_of
made_kind owner key digest_type made h =
    ap (λ (one : FieldsView CdsFields). one.fields)
    (unless_some (key.fields.algorithm == 1) (cds_with key digest_type)
    (key_digest owner key digest_type) made h).3

-- what `make_cds` makes or refuses
pub ruleset made_is = (made_some, no_algorithm, no_type)

-- ---- a match

made_matches : (owner : List (List ℕ)) (one : FieldsView CdsFields) (key : FieldsView CdnskeyFields)
    (digest_type : ℕ) → cds_of owner key digest_type ≡ Some one → matches owner one key ≡ true
unfolding cds_of
made_matches owner one key digest_type h =
    let parts = unless_some (key.fields.algorithm == 1) (cds_with key digest_type)
    (key_digest owner key digest_type) one h in
    subst (λ (made : FieldsView CdsFields). matches owner made key ≡ true) parts.3
    (match_of owner (cds_with key digest_type parts.1) key refl refl
    (number_other key.fields.algorithm 1 parts.0) parts.2)

digest_is : (octets : List ℕ) (digest : Option (List ℕ)) → is_digest octets digest ≡ true
    → digest ≡ Some octets
digest_is octets None h = absurd cc
digest_is octets (Some digest) h = ap Some (sym ((bytes_decides octets digest).0 h))

is_false : (b : Bool) → not b ≡ true → b ≡ false
is_false true h = absurd cc
is_false false h = refl

taken_type : (owner : List (List ℕ)) (key : FieldsView CdnskeyFields) (digest_type : ℕ)
    (octets : List ℕ) → key_digest owner key digest_type ≡ Some octets
    → (digest_type ≡ 2) ⊎ (digest_type ≡ 4)
taken_type owner key digest_type octets h = by (digest_type == 2) (digest_type == 4) refl refl
  where
    by : (is_sha256 is_sha384 : Bool) → (digest_type == 2) ≡ is_sha256
        → (digest_type == 4) ≡ is_sha384 → (digest_type ≡ 2) ⊎ (digest_type ≡ 4)
    by true other e f = inl (number_same digest_type 2 e)
    by false true e f = inr (number_same digest_type 4 f)
    by false false e f =
        let none = refused_type owner key digest_type (number_other digest_type 2 e)
        (number_other digest_type 4 f) in absurd cc

record IsOf (owner : List (List ℕ)) (one : FieldsView CdsFields) (key : FieldsView CdnskeyFields)
    : Type 0 where
  pub made : cds_of owner key one.fields.digest_type ≡ Some one
  pub taken : (one.fields.digest_type ≡ 2) ⊎ (one.fields.digest_type ≡ 4)

match_made : (owner : List (List ℕ)) (one : FieldsView CdsFields) (key : FieldsView CdnskeyFields)
    → matches owner one key ≡ true → IsOf owner one key
unfolding matches
match_made owner one key h =
    let same_algorithm = one.fields.algorithm == key.fields.algorithm in
    let other_algorithm = not (one.fields.algorithm == 1) in
    let same_tag = one.fields.key_tag == key_tag key in
    let third = and_parts (same_algorithm && other_algorithm && same_tag) _ h in
    let second = and_parts (same_algorithm && other_algorithm) same_tag third.0 in
    let first = and_parts same_algorithm other_algorithm second.0 in
    let algorithm = number_same one.fields.algorithm key.fields.algorithm first.0 in
    let apart = number_other one.fields.algorithm 1 (is_false _ first.1) in
    let tag = number_same one.fields.key_tag (key_tag key) second.1 in
    let digest = digest_is one.last _ third.1 in
    record {
      made = sym (made_some owner key one.fields.digest_type one
          (λ i. record {
            key_tag = tag i;
            algorithm = algorithm i;
            digest_type = one.fields.digest_type;
          })
          digest (λ h. apart (algorithm ∙ h)));
      taken = taken_type owner key one.fields.digest_type one.last digest;
    }

alike : (a b : Bool) → (a ≡ true → b ≡ true) → (b ≡ true → a ≡ true) → a ≡ b
alike true b to from = sym (to refl)
alike false true to from = from refl
alike false false to from = refl

either : (a b : Bool) → (a || b) ≡ true → (a ≡ true) ⊎ (b ≡ true)
either true b h = inl refl
either false b h = inr h

left : (a b : Bool) → a ≡ true → (a || b) ≡ true
left true b h = refl
left false b h = absurd cc

right : (a b : Bool) → b ≡ true → (a || b) ≡ true
right true b h = refl
right false b h = h

-- the key's by SHA-256 or by SHA-384
pub matches_by_type : (owner : List (List ℕ)) (one : FieldsView CdsFields)
    (key : FieldsView CdnskeyFields)
    → matches owner one key ≡ (is_cds one (cds_of owner key 2) || is_cds one (cds_of owner key 4))
matches_by_type owner one key = alike _ _ (λ h. to (match_made owner one key h)) from
  where
    to : IsOf owner one key
        → (is_cds one (cds_of owner key 2) || is_cds one (cds_of owner key 4)) ≡ true
    to is = elim is.taken [
      | inl e ↦ left _ _ (made_is_cds one _
          (subst (λ (t : ℕ). cds_of owner key t ≡ Some one) e is.made))
      | inr e ↦ right _ _ (made_is_cds one _
          (subst (λ (t : ℕ). cds_of owner key t ≡ Some one) e is.made))
    ]

    from : (is_cds one (cds_of owner key 2) || is_cds one (cds_of owner key 4)) ≡ true
        → matches owner one key ≡ true
    from h = elim (either _ _ h) [
      | inl e ↦ made_matches owner one key 2 (is_made one _ e)
      | inr e ↦ made_matches owner one key 4 (is_made one _ e)
    ]
