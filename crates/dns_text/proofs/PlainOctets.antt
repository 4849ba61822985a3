-- The table of octets that stand for themselves.
use Rattle.std.proofs.Common.{◌≡◌, ℕ, zero, suc, ◌+◌, ◌<◌, Bool, true, false, ◌&&◌, ◌==◌, not, cond, List, [], ◌∷◌, length, slice_index, refl, ap, ◌∙◌, arith}
use Rattle.std.proofs.lemmas.Bool.{and_parts, eqb-true, false≢true}
use Rattle.std.proofs.lemmas.Bool.Decides.{nat_tests}
use Rattle.text_spec.specs.Pieces.{is_bare, is_quotable}
use Rattle.dns_text.specs.PlainOctets.{place_of}
use Rattle.dns_text.specs.declared.plain_octets.TheConstants.{PLACES}

-- the test of a table from an octet on, which computes
abbrev is_table : List ℕ → ℕ → Bool
is_table [] c = true
is_table (place ∷ places) c = (place == place_of c) && is_table places (c + 1)

is_table-at : (places : List ℕ) (c i : ℕ) → is_table places c ≡ true → i < length places
    → slice_index places i ≡ place_of (c + i)
is_table-at [] c i test within = absurd (omega arith)
is_table-at (place ∷ places) c zero test within =
    let parts = and_parts (place == place_of c) (is_table places (c + 1)) test in
    let same : c ≡ c + 0 = omega arith in
    eqb-true place (place_of c) parts.0 ∙ ap place_of same
is_table-at (place ∷ places) c (suc i) test within =
    let parts = and_parts (place == place_of c) (is_table places (c + 1)) test in
    let next : c + 1 + i ≡ c + suc i = omega arith in
    is_table-at places (c + 1) i parts.1 (omega arith) ∙ ap place_of next

-- the table has each octet's place
pub place_in_table : (c : ℕ) → c < 256 → slice_index PLACES.now c ≡ place_of c
place_in_table c small =
    let from_0 : 0 + c ≡ c = omega arith in
    is_table-at PLACES.now 0 c refl small ∙ ap place_of from_0

-- ---- what a place says

-- an octet that stands for itself outside quotes does in them
bare_is_quotable : (c : ℕ) → is_bare c ≡ true → is_quotable c ≡ true
bare_is_quotable c bare = grind (arith, nat_tests, bare)

bare_by : (b q : Bool) → (cond b 2 (cond q 1 0) == 2) ≡ b
bare_by true q = refl
bare_by false true = refl
bare_by false false = refl

quotable_by : (b q : Bool) → (b ≡ true → q ≡ true) → not (cond b 2 (cond q 1 0) == 0) ≡ q
quotable_by true true both = refl
quotable_by true false both = absurd (false≢true (both refl))
quotable_by false true both = refl
quotable_by false false both = refl

pub bare_place : (c place : ℕ) → place ≡ place_of c → (place == 2) ≡ is_bare c
bare_place c place is = ap (λ (n : ℕ). n == 2) is ∙ bare_by (is_bare c) (is_quotable c)

pub quotable_place : (c place : ℕ) → place ≡ place_of c → not (place == 0) ≡ is_quotable c
quotable_place c place is =
    ap (λ (n : ℕ). not (n == 0)) is
    ∙ quotable_by (is_bare c) (is_quotable c) (bare_is_quotable c)
