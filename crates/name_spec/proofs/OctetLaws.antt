-- Numbers of 16 bits and their two octets. Offered to the crates above: a function that writes a
-- number by `to_be_bytes` or reads one by `from_be_bytes` names `number_octets` in its attribute
-- and needs no other proof, as in #[tactic(auto,
-- using(name_spec::proofs::OctetLaws::number_octets))].
use Rattle.std.proofs.Common.{◌≡◌, ℕ, ◌+◌, ◌*◌, ◌^◌, ◌<◌, [], ◌∷◌, arith}
use Rattle.std.specs.Int.{w16, to_be_bytes, from_be_bytes}
use Rattle.name_spec.specs.Octets.{be2}

-- what `to_be_bytes` gives is `be2`
pub to_be_bytes-be2 : (n : ℕ) → n < 2 ^ 16 → to_be_bytes w16 n ≡ be2 n
to_be_bytes-be2 n in_range = grind arith

-- what `from_be_bytes` gives has the first octet as the high one
pub from_be_bytes-number : (high low : ℕ) → high < 256 → low < 256
    → from_be_bytes w16 (high ∷ low ∷ []) ≡ high * 256 + low
from_be_bytes-number high low high_in_range low_in_range = grind arith

pub ruleset number_octets = (to_be_bytes-be2, from_be_bytes-number)
