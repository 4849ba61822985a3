-- Values of service parameters and their octets (RFC 9460, sections 7 and 8; RFC 9461, section 5;
-- RFC 9540, section 4).
use Rattle.std.specs.Prelude.{◌≡◌, ℕ, ◌<◌, Bool, true, false, List, [], ◌∷◌, length, nat_lt}
use Rattle.std.specs.List.{concat, flat_map, AllByRecursion}
use Rattle.name_spec.specs.Octets.{be2}

-- A value of a type is its items: numbers, protocols, or addresses, each as its octets. A value
-- without a type is any octets of any key.
pub data Value : Type 0 where
  Mandatory : List ℕ → Value
  Alpn : List (List ℕ) → Value
  NoDefaultAlpn : Value
  Port : ℕ → Value
  Ipv4Hint : List (List ℕ) → Value
  Ech : List ℕ → Value
  Ipv6Hint : List (List ℕ) → Value
  DohPath : List ℕ → Value
  Ohttp : Value
  TlsSupportedGroups : List ℕ → Value
  Unknown : ℕ → List ℕ → Value

-- the key that a value belongs to
abbrev pub key_of : Value → ℕ
key_of (Mandatory keys) = 0
key_of (Alpn protocols) = 1
key_of NoDefaultAlpn = 2
key_of (Port port) = 3
key_of (Ipv4Hint addresses) = 4
key_of (Ech octets) = 5
key_of (Ipv6Hint addresses) = 6
key_of (DohPath octets) = 7
key_of Ohttp = 8
key_of (TlsSupportedGroups groups) = 9
key_of (Unknown key octets) = key

-- numbers of 16 bits, in order
abbrev pub numbers16_wire : List ℕ → List ℕ
numbers16_wire = flat_map be2

-- protocols in order, each behind its length
abbrev pub protocols_wire : List (List ℕ) → List ℕ
protocols_wire = flat_map (λ protocol. length protocol ∷ protocol)

-- a value's octets
abbrev pub encode : Value → List ℕ
encode (Mandatory keys) = numbers16_wire keys
encode (Alpn protocols) = protocols_wire protocols
encode NoDefaultAlpn = []
encode (Port port) = be2 port
encode (Ipv4Hint addresses) = concat addresses
encode (Ech octets) = octets
encode (Ipv6Hint addresses) = concat addresses
encode (DohPath octets) = octets
encode Ohttp = []
encode (TlsSupportedGroups groups) = numbers16_wire groups
encode (Unknown key octets) = octets

-- numbers have 16 bits, protocols at most 255 octets, addresses 4 or 16; there is at least one
-- group
abbrev pub HasItems : Value → Type 0
HasItems (Mandatory keys) = AllByRecursion (λ key. key < 65536) keys
HasItems (Alpn protocols) = AllByRecursion (λ protocol. length protocol < 256) protocols
HasItems NoDefaultAlpn = Unit {0}
HasItems (Port port) = port < 65536
HasItems (Ipv4Hint addresses) = AllByRecursion (λ address. length address ≡ 4) addresses
HasItems (Ech octets) = Unit {0}
HasItems (Ipv6Hint addresses) = AllByRecursion (λ address. length address ≡ 16) addresses
HasItems (DohPath octets) = Unit {0}
HasItems Ohttp = Unit {0}
HasItems (TlsSupportedGroups groups) = (0 < length groups) × AllByRecursion (λ group. group < 65536) groups
HasItems (Unknown key octets) = key < 65536

-- a value has at most 65,535 octets (RFC 9460, section 2.2: its length has 16 bits)
abbrev pub IsValue : Value → Type 0
IsValue value = HasItems value × (length (encode value) < 65536)

-- whether a value is of its key's type: one without a type only where the key has none
abbrev pub is_own_type : Value → Bool
is_own_type (Mandatory keys) = true
is_own_type (Alpn protocols) = true
is_own_type NoDefaultAlpn = true
is_own_type (Port port) = true
is_own_type (Ipv4Hint addresses) = true
is_own_type (Ech octets) = true
is_own_type (Ipv6Hint addresses) = true
is_own_type (DohPath octets) = true
is_own_type Ohttp = true
is_own_type (TlsSupportedGroups groups) = true
is_own_type (Unknown key octets) = nat_lt 9 key

-- whether a value has no type
abbrev pub is_unknown : Value → Bool
is_unknown (Mandatory keys) = false
is_unknown (Alpn protocols) = false
is_unknown NoDefaultAlpn = false
is_unknown (Port port) = false
is_unknown (Ipv4Hint addresses) = false
is_unknown (Ech octets) = false
is_unknown (Ipv6Hint addresses) = false
is_unknown (DohPath octets) = false
is_unknown Ohttp = false
is_unknown (TlsSupportedGroups groups) = false
is_unknown (Unknown key octets) = true

-- each of them is a value
abbrev pub AreValues : List Value → Type 0
AreValues = AllByRecursion IsValue
