-- One record more is digested, unless it is a repeat or left out.
use Rattle.std.proofs.Common.{◌≡◌, ℕ, zero, suc, ◌+◌, ◌<◌, Bool, true, false, not, List, [], ◌∷◌, ◌++◌, length, get_or, take, refl, ap, ◌∙◌, sym, arith, append_assoc, add-one, if◌then◌else◌}
use Rattle.std.specs.List.{filter, flat_map}
use Rattle.std.proofs.lemmas.Grind.{flat_map-append}
use Rattle.zonemd_check.specs.ZoneRecordView.{ZoneRecordView}
use Rattle.zonemd_check.specs.Digesting.{is_excluded, is_repeat, fresh_behind, without_repeats, staying, record_octets, zone_octets}
use Rattle.zonemd_check.specs.Repeats.{repeats_behind, repeats_before}

-- ---- the test at a place

behind_at : (before : ZoneRecordView) (records : List ZoneRecordView) (place : ℕ) (d e : ZoneRecordView)
    → place < length records
    → repeats_behind before records place
    ≡ is_repeat (get_or (before ∷ records) place d) (get_or records place e)
behind_at before [] place d e within = absurd (omega arith)
behind_at before (found ∷ others) zero d e within = refl
behind_at before (found ∷ others) (suc place) d e within =
    behind_at found others place d e (omega (arith, within))

pub before_at : (records : List ZoneRecordView) (previous place : ℕ) (d e : ZoneRecordView)
    → place ≡ previous + 1 → place < length records
    → repeats_before records place
    ≡ is_repeat (get_or records previous d) (get_or records place e)
before_at [] previous place d e is within = absurd (omega arith)
before_at (first ∷ others) previous zero d e is within = absurd (omega arith)
before_at (first ∷ others) previous (suc place) d e is within =
    let same : previous ≡ place = omega (arith, is) in
    rw same (behind_at first others place d e (omega (arith, within)))

pub before_first : (records : List ZoneRecordView) (place : ℕ) → place ≡ 0
    → repeats_before records place ≡ false
before_first [] place is = refl
before_first (first ∷ others) zero is = refl
before_first (first ∷ others) (suc place) is = absurd (omega arith)

-- ---- one record more

abbrev one_if : Bool → ZoneRecordView → List ZoneRecordView
one_if true found = []
one_if false found = found ∷ []

fresh_step : (b : Bool) (found : ZoneRecordView) (xs ys : List ZoneRecordView)
    → (if b then xs ++ ys else found ∷ (xs ++ ys)) ≡ (if b then xs else found ∷ xs) ++ ys
fresh_step true found xs ys = refl
fresh_step false found xs ys = refl

fresh_none : (b : Bool) (found : ZoneRecordView)
    → (if b then [] else found ∷ []) ≡ one_if b found
fresh_none true found = refl
fresh_none false found = refl

fresh_more : (before : ZoneRecordView) (records : List ZoneRecordView) (place : ℕ) (d : ZoneRecordView)
    → place < length records
    → fresh_behind before (take (suc place) records)
    ≡ fresh_behind before (take place records)
    ++ one_if (repeats_behind before records place) (get_or records place d)
fresh_more before [] place d within = absurd (omega arith)
fresh_more before (found ∷ others) zero d within = fresh_none (is_repeat before found) found
fresh_more before (found ∷ others) (suc place) d within =
    let b = is_repeat before found in
    ap (λ rest. if b then rest else found ∷ rest)
    (fresh_more found others place d (omega (arith, within)))
    ∙ fresh_step b found (fresh_behind found (take place others))
    (one_if (repeats_behind found others place) (get_or others place d))

without_more : (records : List ZoneRecordView) (place : ℕ) (d : ZoneRecordView) → place < length records
    → without_repeats (take (suc place) records)
    ≡ without_repeats (take place records)
    ++ one_if (repeats_before records place) (get_or records place d)
without_more [] place d within = absurd (omega arith)
without_more (first ∷ others) zero d within = refl
without_more (first ∷ others) (suc place) d within =
    ap (λ rest. first ∷ rest) (fresh_more first others place d (omega (arith, within)))

filter_step : (b : Bool) (x : ZoneRecordView) (xs ys : List ZoneRecordView)
    → (if b then x ∷ (xs ++ ys) else xs ++ ys) ≡ (if b then x ∷ xs else xs) ++ ys
filter_step true x xs ys = refl
filter_step false x xs ys = refl

filter-append : (test : ZoneRecordView → Bool) (xs ys : List ZoneRecordView)
    → filter test (xs ++ ys) ≡ filter test xs ++ filter test ys
filter-append test [] ys = refl
filter-append test (x ∷ xs) ys =
    ap (λ rest. if test x then x ∷ rest else rest) (filter-append test xs ys)
    ∙ filter_step (test x) x (filter test xs) (filter test ys)

-- what a list of at most one record is digested as
octets_more : (apex : List (List ℕ)) (records : List ZoneRecordView) (place : ℕ) (d : ZoneRecordView)
    → place < length records
    → zone_octets apex (take (place + 1) records)
    ≡ zone_octets apex (take place records)
    ++ flat_map record_octets (filter (λ found. not (is_excluded apex found))
    (one_if (repeats_before records place) (get_or records place d)))
unfolding zone_octets
octets_more apex records place d within =
    let test = λ (found : ZoneRecordView). not (is_excluded apex found) in
    let one = one_if (repeats_before records place) (get_or records place d) in
    rw add-one (
    ap (λ rest. flat_map record_octets (filter test rest)) (without_more records place d within)
    ∙ ap (flat_map record_octets) (filter-append test (without_repeats (take place records)) one)
    ∙ flat_map-append record_octets (staying apex (take place records)) (filter test one))

append_none : (xs : List ℕ) → xs ++ [] ≡ xs
append_none [] = refl
append_none (x ∷ xs) = ap (λ rest. x ∷ rest) (append_none xs)

none_of : (test : ZoneRecordView → Bool) (b : Bool) (found : ZoneRecordView) → b ≡ true
    → flat_map record_octets (filter test (one_if b found)) ≡ []
none_of test true found is = refl
none_of test false found is = cc

kept_of : (keep : Bool) (found : ZoneRecordView) → keep ≡ true
    → flat_map record_octets (if keep then found ∷ [] else []) ≡ record_octets found
kept_of true found is = append_none (record_octets found)
kept_of false found is = cc

left_of : (keep : Bool) (found : ZoneRecordView) → keep ≡ false
    → flat_map record_octets (if keep then found ∷ [] else []) ≡ []
left_of true found is = cc
left_of false found is = refl

fresh_kept : (test : ZoneRecordView → Bool) (b : Bool) (found : ZoneRecordView) → b ≡ false
    → test found ≡ true
    → flat_map record_octets (filter test (one_if b found)) ≡ record_octets found
fresh_kept test true found is keep = cc
fresh_kept test false found is keep = kept_of (test found) found keep

all_left : (test : ZoneRecordView → Bool) (b : Bool) (found : ZoneRecordView) → test found ≡ false
    → flat_map record_octets (filter test (one_if b found)) ≡ []
all_left test true found keep = refl
all_left test false found keep = left_of (test found) found keep

module _ (apex : List (List ℕ)) (records : List ZoneRecordView) (place : ℕ) (d : ZoneRecordView)
    (within : place < length records) where
  -- a record that stays
  pub zone_kept : repeats_before records place ≡ false
      → is_excluded apex (get_or records place d) ≡ false
      → zone_octets apex (take (place + 1) records)
      ≡ zone_octets apex (take place records) ++ record_octets (get_or records place d)
  zone_kept fresh kept =
      octets_more apex records place d within
      ∙ ap (λ rest. zone_octets apex (take place records) ++ rest)
      (fresh_kept (λ found. not (is_excluded apex found)) (repeats_before records place)
      (get_or records place d) fresh (ap not kept))

  -- a repeat
  pub zone_repeat : repeats_before records place ≡ true
      → zone_octets apex (take (place + 1) records) ≡ zone_octets apex (take place records)
  zone_repeat is =
      octets_more apex records place d within
      ∙ ap (λ rest. zone_octets apex (take place records) ++ rest)
      (none_of (λ found. not (is_excluded apex found)) (repeats_before records place)
      (get_or records place d) is)
      ∙ append_none (zone_octets apex (take place records))

  -- a record that no digest covers
  pub zone_excluded : is_excluded apex (get_or records place d) ≡ true
      → zone_octets apex (take (place + 1) records) ≡ zone_octets apex (take place records)
  zone_excluded is =
      octets_more apex records place d within
      ∙ ap (λ rest. zone_octets apex (take place records) ++ rest)
      (all_left (λ found. not (is_excluded apex found)) (repeats_before records place)
      (get_or records place d) (ap not is))
      ∙ append_none (zone_octets apex (take place records))

-- ---- what a hasher holds

pub none_held : (apex : List (List ℕ)) (m : List ℕ) → m ++ zone_octets apex [] ≡ m
unfolding zone_octets
none_held apex m = append_none m

pub kept_held : (apex : List (List ℕ)) (records : List ZoneRecordView) (place : ℕ)
    (found : ZoneRecordView) (m : List ℕ) → found ≡ get_or records place found
    → place < length records → repeats_before records place ≡ false
    → is_excluded apex found ≡ false
    → (m ++ zone_octets apex (take place records)) ++ record_octets found
    ≡ m ++ zone_octets apex (take (place + 1) records)
kept_held apex records place found m is within fresh kept =
    let at : is_excluded apex (get_or records place found) ≡ false =
    ap (is_excluded apex) (sym is) ∙ kept in
    append_assoc m (zone_octets apex (take place records)) (record_octets found)
    ∙ ap (λ octets. m ++ (zone_octets apex (take place records) ++ octets))
    (ap record_octets is)
    ∙ ap (λ octets. m ++ octets) (sym (zone_kept apex records place found within fresh at))

pub repeat_held : (apex : List (List ℕ)) (records : List ZoneRecordView) (place : ℕ)
    (found : ZoneRecordView) (m : List ℕ) → place < length records
    → repeats_before records place ≡ true
    → m ++ zone_octets apex (take place records) ≡ m ++ zone_octets apex (take (place + 1) records)
repeat_held apex records place found m within is =
    ap (λ octets. m ++ octets) (sym (zone_repeat apex records place found within is))

pub excluded_held : (apex : List (List ℕ)) (records : List ZoneRecordView) (place : ℕ)
    (found : ZoneRecordView) (m : List ℕ) → found ≡ get_or records place found
    → place < length records → is_excluded apex found ≡ true
    → m ++ zone_octets apex (take place records) ≡ m ++ zone_octets apex (take (place + 1) records)
excluded_held apex records place found m is within excluded =
    let at : is_excluded apex (get_or records place found) ≡ true =
    ap (is_excluded apex) (sym is) ∙ excluded in
    ap (λ octets. m ++ octets) (sym (zone_excluded apex records place found within at))

pub ruleset before_rules = (before_at, before_first)
