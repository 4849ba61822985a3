-- Octets as a message of their own.
use Rattle.std.proofs.Common.{◌≡◌, ℕ, List, length, ap, ◌∙◌}
use Rattle.std.proofs.lemmas.List.{take_rest}
use Rattle.wire_base.specs.Input.{Input, octets_left}

-- all octets are left at the first
pub whole_octets : (octets : List ℕ) (input : Input)
    → input ≡ record { message = octets; end = length octets; pos = 0 }
    → octets_left input ≡ octets
whole_octets octets input is = ap octets_left is ∙ take_rest octets 0
