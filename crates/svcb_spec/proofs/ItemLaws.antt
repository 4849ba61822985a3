-- Items of values in octets, and octets of items. Offered to the crates above, which read and build
-- lists of items.
use Rattle.std.proofs.Common.{◌≡◌, ℕ, zero, suc, ◌+◌, ◌-◌, ◌*◌, ◌/◌, ◌%◌, ◌<◌, ◌≤◌, true, false, List, [], ◌∷◌, ◌++◌, map, length, take, drop, refl, sym, ap, ◌∙◌, arith, subst, ⊎_elim, mod-eq_of_lt, zero-mul, suc-mul, add_comm, length-append, length-take, length-drop}
use Rattle.std.proofs.Math.Nat.{add-mod_left}
use Rattle.std.proofs.Math.Seq.{drop-append_seam, take-append_seam}
use Rattle.std.proofs.lemmas.List.{take-append-drop}
use Rattle.std.proofs.lemmas.Bool.{cases_lt}
use Rattle.std.specs.Prelude.{slice_index}
use Rattle.std.specs.List.{concat, AllByRecursion}
use Rattle.name_spec.specs.Octets.{be2}
use Rattle.svcb_spec.specs.Values.{numbers16_wire, protocols_wire}
use Rattle.svcb_spec.specs.ReadingValues.{octets_number, parts_behind, parts, numbers, protocols_behind, protocols, are_whole_behind, are_whole}

-- ---- octets

abbrev pub AreOctets : List ℕ → Type 0
AreOctets = AllByRecursion (λ octet. octet < 256)

-- what a slice of octets is known to hold
pub are_octets : (octets : List ℕ) → ((i : ℕ) → slice_index octets i < 256) → AreOctets octets
are_octets [] small = tt
are_octets (octet ∷ octets) small = (small 0, are_octets octets (λ i. small (suc i)))

pub small_octets : (octets : List ℕ) → AreOctets octets → (i : ℕ) → slice_index octets i < 256
small_octets [] are i = omega arith
small_octets (octet ∷ octets) are zero = are.0
small_octets (octet ∷ octets) are (suc i) = small_octets octets are.1 i

pub AreOctets-drop : (n : ℕ) (octets : List ℕ) → AreOctets octets → AreOctets (drop n octets)
AreOctets-drop zero octets are = are
AreOctets-drop (suc n) [] are = tt
AreOctets-drop (suc n) (octet ∷ octets) are = AreOctets-drop n octets are.1

-- ---- parts of one length

parts_behind-drop : (len skip : ℕ) (octets : List ℕ)
    → parts_behind len skip octets ≡ parts len (drop skip octets)
parts_behind-drop len zero [] = refl
parts_behind-drop len (suc skip) [] = refl
parts_behind-drop len zero (octet ∷ octets) = refl
parts_behind-drop len (suc skip) (octet ∷ octets) = parts_behind-drop len skip octets

-- the first part, and the others
pub parts-first : (len : ℕ) (octets : List ℕ) → 0 < len → 0 < length octets
    → parts len octets ≡ take len octets ∷ parts len (drop len octets)
parts-first zero octets some full = absurd (omega arith)
parts-first (suc len) [] some full = absurd (omega arith)
parts-first (suc len) (octet ∷ octets) some full =
    let one : suc len - 1 ≡ len = omega arith in
    ap (λ n. take (suc len) (octet ∷ octets) ∷ parts_behind (suc len) n octets) one
    ∙ ap (λ others. take (suc len) (octet ∷ octets) ∷ others)
    (parts_behind-drop (suc len) len octets)

-- whole parts are at least one, and whole parts are left behind it
pub whole_parts : (len n : ℕ) → 0 < len → 0 < n → n % len ≡ 0 → (len ≤ n) × ((n - len) % len ≡ 0)
whole_parts len n some full whole =
    ⊎_elim
    (λ (less : n < len). absurd (let same : n % len ≡ n = mod-eq_of_lt less in omega arith))
    (λ (more : len ≤ n). (
      more,
      (let back : len + (n - len) ≡ n = omega arith
          in sym (add-mod_left len (n - len)) ∙ ap (λ k. k % len) back ∙ whole),
    ))
    (cases_lt n len)

concat-parts_behind : (len skip : ℕ) (octets : List ℕ) → 0 < len
    → concat (parts_behind len skip octets) ≡ drop skip octets
concat-parts_behind len zero [] some = refl
concat-parts_behind len (suc skip) [] some = refl
concat-parts_behind zero zero (octet ∷ octets) some = absurd (omega arith)
concat-parts_behind (suc len) zero (octet ∷ octets) some =
    let one : suc len - 1 ≡ len = omega arith in
    ap (λ rest. take (suc len) (octet ∷ octets) ++ rest)
    (ap (λ n. concat (parts_behind (suc len) n octets)) one
    ∙ concat-parts_behind (suc len) len octets some)
    ∙ take-append-drop (suc len) (octet ∷ octets)
concat-parts_behind len (suc skip) (octet ∷ octets) some = concat-parts_behind len skip octets some

-- parts, joined, are the octets
pub concat-parts : (len : ℕ) (octets : List ℕ) → 0 < len → concat (parts len octets) ≡ octets
concat-parts len octets some = concat-parts_behind len 0 octets some

parts_have : (len count : ℕ) (octets : List ℕ) → 0 < len → length octets ≤ count
    → length octets % len ≡ 0 → AllByRecursion (λ part. length part ≡ len) (parts len octets)
parts_have len count [] some few whole = tt
parts_have len zero (octet ∷ octets) some few whole = absurd (omega arith)
parts_have len (suc count) (octet ∷ octets) some few whole =
    let split = whole_parts len (length (octet ∷ octets)) some (omega arith) whole in
    let rest : length (drop len (octet ∷ octets)) ≡ length (octet ∷ octets) - len =
    length-drop len (octet ∷ octets) in
    let others = parts_have len count (drop len (octet ∷ octets)) some (omega (arith, split.0))
    (ap (λ n. n % len) rest ∙ split.1) in
    subst (AllByRecursion (λ part. length part ≡ len))
    (sym (parts-first len (octet ∷ octets) some (omega arith)))
    (omega (arith, length-take len (octet ∷ octets), split.0), others)

-- each part has its length
pub parts-each : (len : ℕ) (octets : List ℕ) → 0 < len → length octets % len ≡ 0
    → AllByRecursion (λ part. length part ≡ len) (parts len octets)
parts-each len octets some whole = parts_have len (length octets) octets some (omega arith) whole

some_octets : (len : ℕ) (item others : List ℕ) → 0 < len → length item ≡ len
    → 0 < length (item ++ others)
some_octets len item others some is = omega (arith, length-append item others)

-- items of one length, joined, have the items as their parts
pub parts-concat : (len : ℕ) (items : List (List ℕ)) → 0 < len
    → AllByRecursion (λ item. length item ≡ len) items → parts len (concat items) ≡ items
parts-concat len [] some are = refl
parts-concat len (item ∷ items) some are =
    parts-first len (item ++ concat items) some (some_octets len item (concat items) some are.0)
    ∙ ap (λ n. take n (item ++ concat items) ∷ parts len (drop n (item ++ concat items)))
    (sym are.0)
    ∙ ap (λ part. part ∷ parts len (drop (length item) (item ++ concat items)))
    (take-append_seam item (concat items))
    ∙ ap (λ rest. item ∷ parts len rest) (drop-append_seam item (concat items))
    ∙ ap (λ rest. item ∷ rest) (parts-concat len items some are.1)

pub length-concat : (len : ℕ) (items : List (List ℕ)) → AllByRecursion (λ item. length item ≡ len) items
    → length (concat items) ≡ length items * len
length-concat len [] are = sym (zero-mul len)
length-concat len (item ∷ items) are =
    length-append item (concat items) ∙ ap (λ n. n + length (concat items)) are.0
    ∙ ap (λ n. len + n) (length-concat len items are.1)
    ∙ add_comm len (length items * len) ∙ sym (suc-mul (length items) len)

-- items of one length, joined, are whole parts
pub concat-whole : (len : ℕ) (items : List (List ℕ)) → 0 < len
    → AllByRecursion (λ item. length item ≡ len) items → length (concat items) % len ≡ 0
concat-whole len [] some are = mod-eq_of_lt some
concat-whole len (item ∷ items) some are =
    ap (λ n. n % len)
    (length-append item (concat items) ∙ ap (λ n. n + length (concat items)) are.0)
    ∙ add-mod_left len (length (concat items)) ∙ concat-whole len items some are.1

-- ---- numbers

pub octets_number-be2 : (n : ℕ) → octets_number (be2 n) ≡ n
octets_number-be2 n = omega arith

pub be2-octets_number : (octets : List ℕ) → AreOctets octets → length octets ≡ 2
    → be2 (octets_number octets) ≡ octets
be2-octets_number [] are is = absurd (omega arith)
be2-octets_number (a ∷ []) are is = absurd (omega arith)
be2-octets_number (a ∷ b ∷ []) are is =
    let high : (a * 256 + b) / 256 ≡ a = omega (arith, are.0, are.1.0) in
    let low : (a * 256 + b) % 256 ≡ b = omega (arith, are.0, are.1.0) in
    grind arith
be2-octets_number (a ∷ b ∷ c ∷ octets) are is = absurd (omega arith)

pub octets_number-small : (octets : List ℕ) → AreOctets octets → length octets ≡ 2
    → octets_number octets < 65536
octets_number-small [] are is = absurd (omega arith)
octets_number-small (a ∷ []) are is = absurd (omega arith)
octets_number-small (a ∷ b ∷ []) are is = omega (arith, are.0, are.1.0)
octets_number-small (a ∷ b ∷ c ∷ octets) are is = absurd (omega arith)

be2s : (numbers : List ℕ) → concat (map be2 numbers) ≡ numbers16_wire numbers
be2s [] = refl
be2s (n ∷ ns) = ap (λ rest. be2 n ++ rest) (be2s ns)

be2s_have : (numbers : List ℕ) → AllByRecursion (λ item. length item ≡ 2) (map be2 numbers)
be2s_have [] = tt
be2s_have (n ∷ ns) = (refl, be2s_have ns)

numbers_of : (numbers : List ℕ) → map octets_number (map be2 numbers) ≡ numbers
numbers_of [] = refl
numbers_of (n ∷ ns) = ap (λ m. m ∷ map octets_number (map be2 ns)) (octets_number-be2 n)
    ∙ ap (λ rest. n ∷ rest) (numbers_of ns)

-- numbers are read back from their octets
pub numbers-numbers_wire : (ns : List ℕ) → numbers (numbers16_wire ns) ≡ ns
numbers-numbers_wire ns =
    ap (λ octets. map octets_number (parts 2 octets)) (sym (be2s ns))
    ∙ ap (map octets_number) (parts-concat 2 (map be2 ns) (omega arith) (be2s_have ns))
    ∙ numbers_of ns

pub length-numbers_wire : (ns : List ℕ) → length (numbers16_wire ns) ≡ 2 * length ns
length-numbers_wire [] = refl
length-numbers_wire (n ∷ ns) = omega (arith, length-numbers_wire ns)

pub numbers_wire-whole : (ns : List ℕ) → length (numbers16_wire ns) % 2 ≡ 0
numbers_wire-whole ns = omega (arith, length-numbers_wire ns)

-- the first number, and the others
pub numbers-first : (octets : List ℕ) → 0 < length octets
    → numbers octets ≡ octets_number (take 2 octets) ∷ numbers (drop 2 octets)
numbers-first octets full = ap (map octets_number) (parts-first 2 octets (omega arith) full)

AreOctets-take : (n : ℕ) (octets : List ℕ) → AreOctets octets → AreOctets (take n octets)
AreOctets-take zero octets are = tt
AreOctets-take (suc n) [] are = tt
AreOctets-take (suc n) (octet ∷ octets) are = (are.0, AreOctets-take n octets are.1)

numbers_written : (count : ℕ) (octets : List ℕ) → length octets ≤ count → AreOctets octets
    → length octets % 2 ≡ 0
    → (numbers16_wire (numbers octets) ≡ octets) × AllByRecursion (λ n. n < 65536) (numbers octets)
numbers_written count [] few are whole = (refl, tt)
numbers_written zero (octet ∷ octets) few are whole = absurd (omega arith)
numbers_written (suc count) (octet ∷ octets) few are whole =
    let split = whole_parts 2 (length (octet ∷ octets)) (omega arith) (omega arith) whole in
    let rest : length (drop 2 (octet ∷ octets)) ≡ length (octet ∷ octets) - 2 =
    length-drop 2 (octet ∷ octets) in
    let two : length (take 2 (octet ∷ octets)) ≡ 2 =
    omega (arith, length-take 2 (octet ∷ octets), split.0) in
    let here : AreOctets (take 2 (octet ∷ octets)) = AreOctets-take 2 (octet ∷ octets) are in
    let others = numbers_written count (drop 2 (octet ∷ octets)) (omega (arith, split.0))
    (AreOctets-drop 2 (octet ∷ octets) are) (ap (λ n. n % 2) rest ∙ split.1) in
    let first = numbers-first (octet ∷ octets) (omega arith) in (
      ap numbers16_wire first
          ∙ ap (λ front. front ++ numbers16_wire (numbers (drop 2 (octet ∷ octets))))
          (be2-octets_number (take 2 (octet ∷ octets)) here two)
          ∙ ap (λ back. take 2 (octet ∷ octets) ++ back) others.0
          ∙ take-append-drop 2 (octet ∷ octets),
      subst (AllByRecursion (λ n. n < 65536)) (sym first)
          (octets_number-small (take 2 (octet ∷ octets)) here two, others.1),
    )

-- the octets of the numbers that octets spell are these octets
pub numbers_wire-numbers : (octets : List ℕ) → AreOctets octets → length octets % 2 ≡ 0
    → numbers16_wire (numbers octets) ≡ octets
numbers_wire-numbers octets are whole =
    (numbers_written (length octets) octets (omega arith) are whole).0

pub numbers-small : (octets : List ℕ) → AreOctets octets → length octets % 2 ≡ 0
    → AllByRecursion (λ n. n < 65536) (numbers octets)
numbers-small octets are whole = (numbers_written (length octets) octets (omega arith) are whole).1

-- ---- protocols

protocols_behind-drop : (skip : ℕ) (octets : List ℕ)
    → protocols_behind skip octets ≡ protocols (drop skip octets)
protocols_behind-drop zero [] = refl
protocols_behind-drop (suc skip) [] = refl
protocols_behind-drop zero (octet ∷ octets) = refl
protocols_behind-drop (suc skip) (octet ∷ octets) = protocols_behind-drop skip octets

are_whole_behind-drop : (skip : ℕ) (octets : List ℕ) → skip ≤ length octets
    → are_whole_behind skip octets ≡ are_whole (drop skip octets)
are_whole_behind-drop zero [] there = refl
are_whole_behind-drop zero (octet ∷ octets) there = refl
are_whole_behind-drop (suc skip) [] there = absurd (omega arith)
are_whole_behind-drop (suc skip) (octet ∷ octets) there =
    are_whole_behind-drop skip octets (omega arith)

are_whole_behind-cut : (skip : ℕ) (octets : List ℕ) → length octets < skip
    → are_whole_behind skip octets ≡ false
are_whole_behind-cut zero octets cut = absurd (omega arith)
are_whole_behind-cut (suc skip) [] cut = refl
are_whole_behind-cut (suc skip) (octet ∷ octets) cut =
    are_whole_behind-cut skip octets (omega arith)

-- the first protocol stands behind its length
pub protocols-first : (octets others : List ℕ) (len : ℕ) → octets ≡ len ∷ others
    → protocols octets ≡ take len others ∷ protocols (drop len others)
protocols-first octets others len is =
    ap protocols is ∙ ap (λ rest. take len others ∷ rest) (protocols_behind-drop len others)

pub are_whole-first : (octets others : List ℕ) (len : ℕ) → octets ≡ len ∷ others
    → len ≤ length others → are_whole octets ≡ are_whole (drop len others)
are_whole-first octets others len is there =
    ap are_whole is ∙ are_whole_behind-drop len others there

pub are_whole-cut : (octets others : List ℕ) (len : ℕ) → octets ≡ len ∷ others
    → length others < len → are_whole octets ≡ false
are_whole-cut octets others len is cut = ap are_whole is ∙ are_whole_behind-cut len others cut

-- the first of whole protocols is there
pub are_whole-fits : (skip : ℕ) (octets : List ℕ) → are_whole_behind skip octets ≡ true
    → skip ≤ length octets
are_whole-fits zero octets whole = omega arith
are_whole-fits (suc skip) [] whole = cc
are_whole-fits (suc skip) (octet ∷ octets) whole = omega (arith, are_whole-fits skip octets whole)

-- protocols are read back from their octets
pub protocols-protocols_wire : (items : List (List ℕ)) → protocols (protocols_wire items) ≡ items
protocols-protocols_wire [] = refl
protocols-protocols_wire (item ∷ items) =
    protocols-first (length item ∷ item ++ protocols_wire items) (item ++ protocols_wire items)
    (length item) refl
    ∙ ap (λ front. front ∷ protocols (drop (length item) (item ++ protocols_wire items)))
    (take-append_seam item (protocols_wire items))
    ∙ ap (λ rest. item ∷ protocols rest) (drop-append_seam item (protocols_wire items))
    ∙ ap (λ rest. item ∷ rest) (protocols-protocols_wire items)

pub protocols_wire-whole : (items : List (List ℕ)) → are_whole (protocols_wire items) ≡ true
protocols_wire-whole [] = refl
protocols_wire-whole (item ∷ items) =
    are_whole-first (length item ∷ item ++ protocols_wire items) (item ++ protocols_wire items)
    (length item) refl (omega (arith, length-append item (protocols_wire items)))
    ∙ ap are_whole (drop-append_seam item (protocols_wire items)) ∙ protocols_wire-whole items

protocols_written : (count : ℕ) (octets : List ℕ) → length octets ≤ count → AreOctets octets
    → are_whole octets ≡ true
    → (protocols_wire (protocols octets) ≡ octets)
    × AllByRecursion (λ protocol. length protocol < 256) (protocols octets)
protocols_written count [] few are whole = (refl, tt)
protocols_written zero (len ∷ octets) few are whole = absurd (omega arith)
protocols_written (suc count) (len ∷ octets) few are whole =
    let there : len ≤ length octets = are_whole-fits len octets whole in
    let rest : length (drop len octets) ≡ length octets - len = length-drop len octets in
    let others = protocols_written count (drop len octets) (omega arith)
    (AreOctets-drop len octets are.1) (sym (are_whole_behind-drop len octets there) ∙ whole) in
    let long : length (take len octets) ≡ len = omega (arith, length-take len octets) in
    let first = protocols-first (len ∷ octets) octets len refl in (
      ap protocols_wire first
          ∙ ap (λ n. n ∷ take len octets ++ protocols_wire (protocols (drop len octets))) long
          ∙ ap (λ back. len ∷ take len octets ++ back) others.0
          ∙ ap (λ all. len ∷ all) (take-append-drop len octets),
      subst (AllByRecursion (λ protocol. length protocol < 256)) (sym first) (omega (arith, are.0), others.1),
    )

-- the octets of the protocols that octets are, are these octets
pub protocols_wire-protocols : (octets : List ℕ) → AreOctets octets → are_whole octets ≡ true
    → protocols_wire (protocols octets) ≡ octets
protocols_wire-protocols octets are whole =
    (protocols_written (length octets) octets (omega arith) are whole).0

pub protocols-short : (octets : List ℕ) → AreOctets octets → are_whole octets ≡ true
    → AllByRecursion (λ protocol. length protocol < 256) (protocols octets)
protocols-short octets are whole =
    (protocols_written (length octets) octets (omega arith) are whole).1

-- ---- for the functions that read items

pub ruleset first_items =
    (parts-first, numbers-first, protocols-first, are_whole-first, are_whole-cut)

pub ruleset written_items = (concat-parts, numbers_wire-numbers, protocols_wire-protocols)
