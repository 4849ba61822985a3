-- The items of values.
use Rattle.std.proofs.Common.{◌≡◌, ℕ, ◌+◌, ◌-◌, ◌<◌, ◌≤◌, List, ◌∷◌, length, take, drop, map, false, Ok, ap, sym, ◌∙◌, arith, length-drop}
use Rattle.std.specs.Prelude.{nat_lt, slice_index, slice_range}
use Rattle.std.proofs.lemmas.List.{drop-drop, drop_more}
use Rattle.std.proofs.lemmas.Bool.Decides.{nat_tests}
use Rattle.name_spec.specs.Octets.{number_at}
use Rattle.svcb_spec.specs.Values.{Port}
use Rattle.svcb_spec.specs.ReadingValues.{parts, numbers, protocols, octets_number, take_port, whole_taken}
use Rattle.svcb_spec.proofs.ItemLaws.{parts-first, protocols-first}

-- the number that two octets at a place spell
number_there : (octets : List ℕ) (pos : ℕ) → pos + 2 ≤ length octets
    → octets_number (take 2 (drop pos octets)) ≡ number_at octets pos
number_there octets pos fits =
    let behind = drop_more octets pos 0 (omega arith)
    ∙ ap (λ others. slice_index octets pos ∷ others) (drop_more octets (pos + 1) 0 (omega arith)) in
    ap (λ left. octets_number (take 2 left)) behind ∙ omega arith

-- the first part from a place on
pub part_at : (len : ℕ) (octets : List ℕ) (pos : ℕ) → 0 < len → pos < length octets
    → parts len (drop pos octets)
    ≡ slice_range octets pos (pos + len) ∷ parts len (drop (pos + len) octets)
part_at len octets pos some here =
    let is : pos + len - pos ≡ len = omega arith in
    parts-first len (drop pos octets) some (omega (arith, length-drop pos octets))
    ∙ ap (λ n. take n (drop pos octets) ∷ parts len (drop len (drop pos octets))) (sym is)
    ∙ ap (λ left. slice_range octets pos (pos + len) ∷ parts len left) (drop-drop len pos octets)

-- the first number from a place on
pub number_first : (octets : List ℕ) (pos : ℕ) → pos + 2 ≤ length octets
    → numbers (drop pos octets) ≡ number_at octets pos ∷ numbers (drop (pos + 2) octets)
number_first octets pos fits =
    ap (map octets_number)
    (parts-first 2 (drop pos octets) (omega arith) (omega (arith, length-drop pos octets)))
    ∙ ap (λ n. n ∷ numbers (drop 2 (drop pos octets))) (number_there octets pos fits)
    ∙ ap (λ left. number_at octets pos ∷ numbers left) (drop-drop 2 pos octets)

-- the first protocol from a place on
pub protocol_at : (octets : List ℕ) (pos : ℕ) → pos < length octets
    → protocols (drop pos octets)
    ≡ slice_range octets (pos + 1) (pos + 1 + slice_index octets pos)
    ∷ protocols (drop (pos + 1 + slice_index octets pos) octets)
protocol_at octets pos here =
    let len = slice_index octets pos in
    let is : pos + 1 + slice_index octets pos - (pos + 1) ≡ slice_index octets pos = omega arith in
    protocols-first (drop pos octets) (drop (pos + 1) octets) len (drop_more octets pos 0 here)
    ∙ ap (λ n. take n (drop (pos + 1) octets) ∷ protocols (drop len (drop (pos + 1) octets)))
    (sym is)
    ∙ ap (λ left. slice_range octets (pos + 1) (pos + 1 + len) ∷ protocols left)
    (drop-drop len (pos + 1) octets)

-- two octets are a port
pub whole_port : (octets : List ℕ) → length octets ≡ 2
    → whole_taken octets (take_port octets) ≡ Ok (Port (number_at octets 0))
whole_port octets two =
    let enough : nat_lt (length octets) 2 ≡ false = grind (arith, nat_tests) in
    let none_left : nat_lt 2 (length octets) ≡ false = grind (arith, nat_tests) in
    rw (enough, none_left) (ap (λ n. Ok (Port n)) (number_there octets 0 (omega arith)))

pub ruleset port_rules = (whole_port, nat_tests)

pub ruleset item_rules = (part_at, number_first, protocol_at, nat_tests)
