-- A port in the octets that a parser has left.
use Rattle.std.proofs.Common.{◌≡◌, ℕ, ◌+◌, ◌-◌, ◌<◌, ◌≤◌, List, [], ◌∷◌, length, take, drop, true, false, Ok, Err, refl, sym, ap, ◌∙◌, arith, length-take}
use Rattle.std.specs.Prelude.{nat_lt, slice_range}
use Rattle.std.specs.Int.{w16, from_be_bytes}
use Rattle.std.proofs.lemmas.Bool.Decides.{nat_tests}
use Rattle.std.proofs.lemmas.List.{take-take}
use Rattle.name_spec.specs.Octets.{Short}
use Rattle.svcb_spec.specs.Values.{Port}
use Rattle.svcb_spec.specs.ReadingValues.{octets_number, take_port}

number_of_two : (octets : List ℕ) → length octets ≡ 2
    → octets_number octets ≡ from_be_bytes w16 octets
number_of_two [] len = absurd (omega arith)
number_of_two (high ∷ []) len = absurd (omega arith)
number_of_two (high ∷ low ∷ []) len = omega arith
number_of_two (high ∷ low ∷ other ∷ octets) len = absurd (omega arith)

-- the next two octets are the first two of those that are left
first_two : (message : List ℕ) (pos end : ℕ) → pos + 2 ≤ end
    → take 2 (slice_range message pos end) ≡ slice_range message pos (pos + 2)
first_two message pos end within =
    let two : pos + 2 - pos ≡ 2 = omega arith in
    take-take 2 (end - pos) (drop pos message) (omega arith)
    ∙ ap (λ n. take n (drop pos message)) (sym two)

-- and they are a port
pub take_port-ok : (message octets : List ℕ) (pos end : ℕ)
    → octets ≡ slice_range message pos (pos + 2) → length octets ≡ 2 → pos + 2 ≤ end
    → take_port (slice_range message pos end)
    ≡ Ok (record { value = Port (from_be_bytes w16 octets); len = 2 })
take_port-ok message octets pos end is len within =
    let first : take 2 (slice_range message pos end) ≡ octets =
    first_two message pos end within ∙ sym is in
    let enough : nat_lt (length (slice_range message pos end)) 2 ≡ false =
    grind (arith, nat_tests, ap length first, length-take 2 (slice_range message pos end)) in
    rw enough (ap (λ n. Ok (record { value = Port n; len = 2 }))
    (ap octets_number first ∙ number_of_two octets len))

-- fewer are none
pub take_port-short : (message : List ℕ) (pos end : ℕ) → end < pos + 2
    → take_port (slice_range message pos end) ≡ Err Short
take_port-short message pos end short =
    let few : nat_lt (length (slice_range message pos end)) 2 ≡ true =
    grind (arith, nat_tests, length-take (end - pos) (drop pos message)) in
    rw few refl

pub ruleset port_rules = (take_port-ok, take_port-short)
