-- The data of IPSECKEY records (RFC 4025, section 2).
use Rattle.std.specs.Prelude.{ℕ, ◌+◌, ◌≤◌, ◌<◌, ◌==◌, Bool, ◌&&◌, not, List, [], ◌∷◌, ◌++◌, length, ◌≡◌}
use Rattle.std.specs.List.{flat_map}
use Rattle.name_spec.specs.Names.{name_wire, AreLabels}
use Rattle.name_spec.specs.AddressLaws.{AreOctets}

-- what stands for the gateway: nothing, the octets of an address, or the labels of a name without
-- the root
pub data Gateway : Type 0 where
  NoGateway : Gateway
  Ipv4Gateway : (octets : List ℕ) → Gateway
  Ipv6Gateway : (octets : List ℕ) → Gateway
  NameGateway : (labels : List (List ℕ)) → Gateway

-- the number of a gateway's type (RFC 4025, section 2.3)
abbrev pub gateway_type : Gateway → ℕ
gateway_type NoGateway = 0
gateway_type (Ipv4Gateway octets) = 1
gateway_type (Ipv6Gateway octets) = 2
gateway_type (NameGateway labels) = 3

-- the data; the gateway has its type with it
pub record Ipseckey : Type 0 where
  pub precedence : ℕ
  pub algorithm : ℕ
  pub gateway : Gateway
  pub key : List ℕ

-- whether a key is missing: only algorithm 0 goes without (RFC 4025, section 2.4)
abbrev pub lacks_key : ℕ → List ℕ → Bool
lacks_key algorithm key = (length key == 0) && not (algorithm == 0)

-- ---- octets

-- the octets of a gateway; a name's are uncompressed
abbrev pub gateway_wire : Gateway → List ℕ
gateway_wire NoGateway = []
gateway_wire (Ipv4Gateway octets) = octets
gateway_wire (Ipv6Gateway octets) = octets
gateway_wire (NameGateway labels) = name_wire labels

-- The octets of the data. In canonical form they are the same: RFC 4034, section 6.2, doesn't name
-- IPSECKEY, so that a gateway's name keeps its case.
abbrev pub ipseckey_wire : Ipseckey → List ℕ
ipseckey_wire found =
    found.precedence ∷ gateway_type found.gateway ∷ found.algorithm ∷ gateway_wire found.gateway
    ++ found.key

-- their count
abbrev pub ipseckey_len : Ipseckey → ℕ
ipseckey_len found = 3 + length (gateway_wire found.gateway) + length found.key

-- ---- what a gateway and data are

abbrev pub IsAddress : ℕ → List ℕ → Type 0
IsAddress len octets = (length octets ≡ len) × AreOctets octets

abbrev pub IsGateway : Gateway → Type 0
IsGateway NoGateway = Unit {0}
IsGateway (Ipv4Gateway octets) = IsAddress 4 octets
IsGateway (Ipv6Gateway octets) = IsAddress 16 octets
IsGateway (NameGateway labels) = AreLabels 0 labels × AreOctets (flat_map (λ label. label) labels)

-- numbers of one octet, a gateway, octets, and at most 65,535 octets in all
pub record IsIpseckey (found : Ipseckey) : Type 0 where
  pub precedence : found.precedence < 256
  pub algorithm : found.algorithm < 256
  pub gateway : IsGateway found.gateway
  pub key : AreOctets found.key
  pub fits : ipseckey_len found ≤ 65535
