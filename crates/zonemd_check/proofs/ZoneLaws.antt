-- Laws of what is digested of a zone.
use Rattle.std.proofs.Common.{◌≡◌, ℕ, Bool, true, false, not, ◌&&◌, ◌==◌, List, [], ◌∷◌, ◌++◌, length, map, refl, ap, ◌∙◌, sym, if◌then◌else◌}
use Rattle.std.specs.Bool.{one_answer}
use Rattle.std.specs.Cmp.{unsigned_Decides}
use Rattle.std.specs.Cmp.Lexicographic.{pointwise, bytes_decides}
use Rattle.std.specs.Char.{to_ascii_lowercase}
use Rattle.std.specs.Int.{bytes_high_first}
use Rattle.std.specs.List.{filter, flat_map}
use Rattle.std.proofs.lemmas.Str.Ascii.{lowercase-lowercase}
use Rattle.name_spec.specs.OwnedNames.{in_lower_case, is_same_name, lowered_wire}
use Rattle.name_spec.specs.NameOrderLaws.{same_lowered, lowered_wire-same}
use Rattle.wire_records.specs.UnknownComparing.{is_same_unknown}
use Rattle.zonemd_check.specs.ZoneRecordView.{ZoneRecordView}
use Rattle.zonemd_check.specs.Digesting.{is_about_zonemd, is_excluded, is_repeat, fresh_behind, without_repeats, record_octets, zone_octets}
use Rattle.zonemd_check.specs.Laws.{lowered, RepeatsLeftOut, FirstStands, OwnersInAnyCase, EqualsInAnyOrder}

-- ---- owners in lower case

lowered_label : (label : List ℕ)
    → map to_ascii_lowercase (map to_ascii_lowercase label) ≡ map to_ascii_lowercase label
lowered_label [] = refl
lowered_label (octet ∷ octets) =
    let head = lowercase-lowercase octet in let rest = lowered_label octets in
    λ i. head i ∷ rest i

lowered_twice : (owner : List (List ℕ))
    → in_lower_case (in_lower_case owner) ≡ in_lower_case owner
lowered_twice [] = refl
lowered_twice (label ∷ labels) =
    let head = lowered_label label in let rest = lowered_twice labels in
    λ i. head i ∷ rest i

-- names are the same as before
same_in_lower_case : (one other : List (List ℕ))
    → is_same_name (in_lower_case one) other ≡ is_same_name one other
same_in_lower_case one other =
    one_answer _ _ (same_lowered (in_lower_case one) other) (
      (λ is. lowered_twice one ∙ (same_lowered one other).0 is),
      λ same. (same_lowered one other).1 (sym (lowered_twice one) ∙ same),
    )

same_both : (one other : List (List ℕ))
    → is_same_name (in_lower_case one) (in_lower_case other) ≡ is_same_name one other
same_both one other =
    one_answer _ _ (same_lowered (in_lower_case one) (in_lower_case other)) (
      (λ is. lowered_twice one ∙ (same_lowered one other).0 is ∙ sym (lowered_twice other)),
      λ same. (same_lowered one other).1
          (sym (lowered_twice one) ∙ same ∙ lowered_twice other),
    )

wire_lowered : (owner : List (List ℕ)) → lowered_wire (in_lower_case owner) ≡ lowered_wire owner
wire_lowered owner =
    lowered_wire-same (in_lower_case owner) owner
    ((same_lowered (in_lower_case owner) owner).1 (lowered_twice owner))

octets_lowered : (found : ZoneRecordView) → record_octets (lowered found) ≡ record_octets found
octets_lowered found =
    ap (λ wire. wire ++ bytes_high_first 2 found.record_data.rtype
    ++ bytes_high_first 2 found.class ++ bytes_high_first 4 found.ttl
    ++ bytes_high_first 2 (length found.record_data.octets) ++ found.record_data.octets)
    (wire_lowered found.owner)

repeat_lowered : (before found : ZoneRecordView)
    → is_repeat (lowered before) (lowered found) ≡ is_repeat before found
repeat_lowered before found =
    ap (λ same. is_same_unknown before.record_data found.record_data && same)
    (same_both before.owner found.owner)

excluded_lowered : (apex : List (List ℕ)) (found : ZoneRecordView)
    → is_excluded apex (lowered found) ≡ is_excluded apex found
excluded_lowered apex found =
    ap (λ same. is_about_zonemd found.record_data && same) (same_in_lower_case found.owner apex)

if_lowered : (b : Bool) (found : ZoneRecordView) (xs : List ZoneRecordView)
    → (if b then map lowered xs else lowered found ∷ map lowered xs)
    ≡ map lowered (if b then xs else found ∷ xs)
if_lowered true found xs = refl
if_lowered false found xs = refl

fresh_lowered : (before : ZoneRecordView) (records : List ZoneRecordView)
    → fresh_behind (lowered before) (map lowered records)
    ≡ map lowered (fresh_behind before records)
fresh_lowered before [] = refl
fresh_lowered before (found ∷ others) =
    let rest = fresh_lowered found others in
    let same = repeat_lowered before found in
    (λ i. if same i then rest i else lowered found ∷ rest i)
    ∙ if_lowered (is_repeat before found) found (fresh_behind found others)

without_lowered : (records : List ZoneRecordView)
    → without_repeats (map lowered records) ≡ map lowered (without_repeats records)
without_lowered [] = refl
without_lowered (first ∷ others) = ap (λ rest. lowered first ∷ rest) (fresh_lowered first others)

more_octets : (b : Bool) (found : ZoneRecordView) (xs : List ZoneRecordView)
    → flat_map record_octets (if b then found ∷ xs else xs)
    ≡ (if b then record_octets found ++ flat_map record_octets xs else flat_map record_octets xs)
more_octets true found xs = refl
more_octets false found xs = refl

digested_lowered : (apex : List (List ℕ)) (records : List ZoneRecordView)
    → flat_map record_octets
    (filter (λ found. not (is_excluded apex found)) (map lowered records))
    ≡ flat_map record_octets (filter (λ found. not (is_excluded apex found)) records)
digested_lowered apex [] = refl
digested_lowered apex (found ∷ others) =
    let rest = digested_lowered apex others in
    let excluded = excluded_lowered apex found in
    let octets = octets_lowered found in
    more_octets (not (is_excluded apex (lowered found))) (lowered found) _
    ∙ (λ i. if not (excluded i) then octets i ++ rest i else rest i)
    ∙ sym (more_octets (not (is_excluded apex found)) found _)

pub owners_in_any_case : OwnersInAnyCase
unfolding zone_octets
owners_in_any_case apex records =
    ap (λ kept. flat_map record_octets (filter (λ found. not (is_excluded apex found)) kept))
    (without_lowered records)
    ∙ digested_lowered apex (without_repeats records)

-- ---- neighbours

swapped : (front behind : List ZoneRecordView) (found other : ZoneRecordView)
    → lowered found ≡ lowered other
    → map lowered (front ++ found ∷ other ∷ behind) ≡ map lowered (front ++ other ∷ found ∷ behind)
swapped [] behind found other same =
    λ i. same i ∷ sym same i ∷ map lowered behind
swapped (first ∷ front) behind found other same =
    ap (λ rest. lowered first ∷ rest) (swapped front behind found other same)

pub equals_in_any_order : EqualsInAnyOrder
equals_in_any_order apex front behind found other same =
    sym (owners_in_any_case apex (front ++ found ∷ other ∷ behind))
    ∙ ap (zone_octets apex) (swapped front behind found other same)
    ∙ owners_in_any_case apex (front ++ other ∷ found ∷ behind)

-- ---- repeats

both : (a b : Bool) → (a && b) ≡ true → (a ≡ true) × (b ≡ true)
both true b h = (refl, h)
both false b h = cc

join : (a b : Bool) → a ≡ true → b ≡ true → (a && b) ≡ true
join true b h k = k
join false b h k = h

-- what two records have in common where one repeats the other
record Alike (one other : ZoneRecordView) : Type 0 where
  rtype : one.record_data.rtype ≡ other.record_data.rtype
  octets : one.record_data.octets ≡ other.record_data.octets
  owner : in_lower_case one.owner ≡ in_lower_case other.owner

alike_of : (one other : ZoneRecordView) → is_repeat one other ≡ true → Alike one other
alike_of one other is =
    let sides = both (is_same_unknown one.record_data other.record_data)
    (is_same_name one.owner other.owner) is in
    let parts = both (one.record_data.rtype == other.record_data.rtype)
    (pointwise ◌==◌ one.record_data.octets other.record_data.octets) sides.0 in
    record {
      rtype = (unsigned_Decides one.record_data.rtype other.record_data.rtype).0 parts.0;
      octets = (bytes_decides one.record_data.octets other.record_data.octets).0 parts.1;
      owner = (same_lowered one.owner other.owner).0 sides.1;
    }

of_alike : (one other : ZoneRecordView) → Alike one other → is_repeat one other ≡ true
of_alike one other alike =
    join (is_same_unknown one.record_data other.record_data) (is_same_name one.owner other.owner)
    (join (one.record_data.rtype == other.record_data.rtype)
    (pointwise ◌==◌ one.record_data.octets other.record_data.octets)
    ((unsigned_Decides one.record_data.rtype other.record_data.rtype).1 alike.rtype)
    ((bytes_decides one.record_data.octets other.record_data.octets).1 alike.octets))
    ((same_lowered one.owner other.owner).1 alike.owner)

-- what repeats a record repeats what that repeats
repeat_like : (first found other : ZoneRecordView) → is_repeat first found ≡ true
    → is_repeat first other ≡ is_repeat found other
repeat_like first found other is =
    let same = alike_of first found is in
    one_answer {P = Alike found other} _ _ (
      (λ like. let other_like = alike_of first other like in record {
        rtype = sym same.rtype ∙ other_like.rtype;
        octets = sym same.octets ∙ other_like.octets;
        owner = sym same.owner ∙ other_like.owner;
      }),
      λ like. of_alike first other (record {
        rtype = same.rtype ∙ like.rtype;
        octets = same.octets ∙ like.octets;
        owner = same.owner ∙ like.owner;
      }),
    )
    ((λ like. alike_of found other like), λ like. of_alike found other like)

fresh_like : (first found : ZoneRecordView) (records : List ZoneRecordView) → is_repeat first found ≡ true
    → fresh_behind first records ≡ fresh_behind found records
fresh_like first found [] is = refl
fresh_like first found (other ∷ others) is =
    ap (λ b. if b then fresh_behind other others else other ∷ fresh_behind other others)
    (repeat_like first found other is)

if_yes : (b : Bool) (xs ys : List ZoneRecordView) → b ≡ true → (if b then xs else ys) ≡ xs
if_yes true xs ys h = refl
if_yes false xs ys h = cc

if_no : (b : Bool) (xs ys : List ZoneRecordView) → b ≡ false → (if b then xs else ys) ≡ ys
if_no true xs ys h = cc
if_no false xs ys h = refl

fresh_with : (first found : ZoneRecordView) (behind : List ZoneRecordView) → is_repeat first found ≡ true
    → fresh_behind first (found ∷ behind) ≡ fresh_behind first behind
fresh_with first found behind is =
    if_yes (is_repeat first found) _ _ is ∙ sym (fresh_like first found behind is)

fresh_in : (before first found : ZoneRecordView) (front behind : List ZoneRecordView)
    → is_repeat first found ≡ true
    → fresh_behind before (front ++ first ∷ found ∷ behind)
    ≡ fresh_behind before (front ++ first ∷ behind)
fresh_in before first found [] behind is =
    ap (λ rest. if is_repeat before first then rest else first ∷ rest)
    (fresh_with first found behind is)
fresh_in before first found (other ∷ front) behind is =
    ap (λ rest. if is_repeat before other then rest else other ∷ rest)
    (fresh_in other first found front behind is)

without_in : (front behind : List ZoneRecordView) (first found : ZoneRecordView)
    → is_repeat first found ≡ true
    → without_repeats (front ++ first ∷ found ∷ behind)
    ≡ without_repeats (front ++ first ∷ behind)
without_in [] behind first found is =
    ap (λ rest. first ∷ rest) (fresh_with first found behind is)
without_in (other ∷ front) behind first found is =
    ap (λ rest. other ∷ rest) (fresh_in other first found front behind is)

pub first_stands : FirstStands
unfolding zone_octets
first_stands apex front behind first found is =
    ap (λ kept. flat_map record_octets (filter (λ found. not (is_excluded apex found)) kept))
    (without_in front behind first found is)

-- without repeats there are none
fresh_by : (before found : ZoneRecordView) (others : List ZoneRecordView) (b : Bool)
    → is_repeat before found ≡ b
    → fresh_behind found (fresh_behind found others) ≡ fresh_behind found others
    → fresh_behind before (if b then fresh_behind found others
    else found ∷ fresh_behind found others)
    ≡ (if b then fresh_behind found others else found ∷ fresh_behind found others)
fresh_by before found others true is again =
    fresh_like before found (fresh_behind found others) is ∙ again
fresh_by before found others false is again =
    if_no (is_repeat before found) _ _ is ∙ ap (λ rest. found ∷ rest) again

fresh_again : (before : ZoneRecordView) (records : List ZoneRecordView)
    → fresh_behind before (fresh_behind before records) ≡ fresh_behind before records
fresh_again before [] = refl
fresh_again before (found ∷ others) =
    fresh_by before found others (is_repeat before found) refl (fresh_again found others)

without_again : (records : List ZoneRecordView)
    → without_repeats (without_repeats records) ≡ without_repeats records
without_again [] = refl
without_again (first ∷ others) = ap (λ rest. first ∷ rest) (fresh_again first others)

pub repeats_left_out : RepeatsLeftOut
unfolding zone_octets
repeats_left_out apex records =
    ap (λ kept. flat_map record_octets (filter (λ found. not (is_excluded apex found)) kept))
    (without_again records)
