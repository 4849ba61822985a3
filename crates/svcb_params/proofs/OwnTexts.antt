-- Lists of items are empty where their octets are.
use Rattle.std.proofs.Common.{◌≡◌, ℕ, ◌==◌, true, List, [], ◌∷◌, length, refl, arith}
use Rattle.std.specs.Prelude.{not}
use Rattle.std.proofs.lemmas.Bool.Decides.{nat_tests}
use Rattle.svcb_spec.specs.ReadingValues.{numbers, parts, protocols}
use Rattle.svcb_spec.specs.PrintedParams.{has_some}

there : (c : ℕ) (octets : List ℕ) → true ≡ not (length (c ∷ octets) == 0)
there c octets = grind (arith, nat_tests)

pub some_octets : (octets : List ℕ) → has_some octets ≡ not (length octets == 0)
some_octets [] = refl
some_octets (c ∷ octets) = there c octets

pub some_numbers : (octets : List ℕ) → has_some (numbers octets) ≡ not (length octets == 0)
some_numbers [] = refl
some_numbers (c ∷ octets) = there c octets

pub some_parts : (len : ℕ) (octets : List ℕ)
    → has_some (parts len octets) ≡ not (length octets == 0)
some_parts len [] = refl
some_parts len (c ∷ octets) = there c octets

pub some_protocols : (octets : List ℕ) → has_some (protocols octets) ≡ not (length octets == 0)
some_protocols [] = refl
some_protocols (c ∷ octets) = there c octets

pub ruleset own_text_rules = (some_octets, some_numbers, some_parts, some_protocols)
