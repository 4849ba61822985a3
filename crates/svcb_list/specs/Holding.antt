-- Octets that are a value have items of its type.
use Rattle.std.proofs.Common.{◌≡◌, ℕ, ◌%◌, ◌<◌, true, List, length, arith}
use Rattle.std.specs.Prelude.{slice_index, is_none, ◌==◌}
use Rattle.std.proofs.lemmas.Bool.Decides.{nat_tests}
use Rattle.std.specs.List.{AllByRecursion}
use Rattle.svcb_spec.specs.ReadingValues.{numbers, parts, protocols, are_whole, groups_fault}
use Rattle.svcb_spec.proofs.ItemLaws.{are_octets, numbers-small, protocols-short, parts-each}
use Rattle.svcb_spec.proofs.ValueLaws.{some_numbers}

no_rest : (len : ℕ) (octets : List ℕ) → (length octets % len == 0) ≡ true → length octets % len ≡ 0
no_rest len octets whole = grind (arith, nat_tests)

pub numbers_hold : (octets : List ℕ) → ((i : ℕ) → slice_index octets i < 256)
    → (length octets % 2 == 0) ≡ true → AllByRecursion (λ number. number < 65536) (numbers octets)
numbers_hold octets small whole =
    numbers-small octets (are_octets octets small) (no_rest 2 octets whole)

pub protocols_hold : (octets : List ℕ) → ((i : ℕ) → slice_index octets i < 256)
    → are_whole octets ≡ true → AllByRecursion (λ protocol. length protocol < 256) (protocols octets)
protocols_hold octets small whole = protocols-short octets (are_octets octets small) whole

pub addresses_hold : (len : ℕ) (octets : List ℕ) → 0 < len → (length octets % len == 0) ≡ true
    → AllByRecursion (λ address. length address ≡ len) (parts len octets)
addresses_hold len octets not_empty whole =
    parts-each len octets not_empty (no_rest len octets whole)

pub some_groups : (octets : List ℕ) → is_none (groups_fault octets) ≡ true
    → 0 < length (numbers octets)
some_groups octets sound = some_numbers octets (grind (arith, nat_tests))
