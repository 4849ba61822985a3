-- A digest that was computed.
use Rattle.std.specs.Prelude.{ℕ, List}
use Rattle.cds_check.specs.declared.digests.KeyDigest.{KeyDigest}
use Rattle.cds_check.specs.declared.digests.KeyDigest.TheVariants.{Sha256, Sha384}

-- its octets
abbrev pub octets_of : KeyDigest → List ℕ
octets_of (Sha256 octets) = octets
octets_of (Sha384 octets) = octets
