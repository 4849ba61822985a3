-- What the definitions of values give on worked inputs. No proof cites this file.
use Rattle.std.proofs.Common.{◌≡◌, [], ◌∷◌, Ok, Err, refl}
use Rattle.name_spec.specs.Octets.{Short, Form}
use Rattle.svcb_spec.specs.Values.{Mandatory, Alpn, NoDefaultAlpn, Port, Ipv4Hint, Ech, Ipv6Hint, TlsSupportedGroups, Unknown, encode}
use Rattle.svcb_spec.specs.ReadingValues.{take_value, whole_taken, value_in}

-- mandatory=alpn,ipv4hint,key65280
mandatory : encode (Mandatory (1 ∷ 4 ∷ 65280 ∷ [])) ≡ 0x00 ∷ 0x01 ∷ 0x00 ∷ 0x04 ∷ 0xff ∷ 0x00 ∷ []
mandatory = refl

-- alpn=h2,h3-19
alpn : encode (Alpn ((0x68 ∷ 0x32 ∷ []) ∷ (0x68 ∷ 0x33 ∷ 0x2d ∷ 0x31 ∷ 0x39 ∷ []) ∷ []))
    ≡ 0x02 ∷ 0x68 ∷ 0x32 ∷ 0x05 ∷ 0x68 ∷ 0x33 ∷ 0x2d ∷ 0x31 ∷ 0x39 ∷ []
alpn = refl

-- port=443
port : encode (Port 443) ≡ 0x01 ∷ 0xbb ∷ []
port = refl

-- ipv4hint=192.0.2.1,192.0.2.2
ipv4_hint : encode (Ipv4Hint ((192 ∷ 0 ∷ 2 ∷ 1 ∷ []) ∷ (192 ∷ 0 ∷ 2 ∷ 2 ∷ []) ∷ []))
    ≡ 0xc0 ∷ 0x00 ∷ 0x02 ∷ 0x01 ∷ 0xc0 ∷ 0x00 ∷ 0x02 ∷ 0x02 ∷ []
ipv4_hint = refl

-- tls-supported-groups=29,23
groups : encode (TlsSupportedGroups (29 ∷ 23 ∷ [])) ≡ 0x00 ∷ 0x1d ∷ 0x00 ∷ 0x17 ∷ []
groups = refl

-- an odd count of octets is no list of keys
odd_mandatory : take_value 0 (0x00 ∷ 0x01 ∷ 0x00 ∷ []) ≡ Err Form
odd_mandatory = refl

even_mandatory : whole_taken (0x00 ∷ 0x01 ∷ []) (take_value 0 (0x00 ∷ 0x01 ∷ []))
    ≡ Ok (Mandatory (1 ∷ []))
even_mandatory = refl

-- a protocol may be empty, and none may be cut off
empty_protocol : whole_taken (0x00 ∷ []) (take_value 1 (0x00 ∷ [])) ≡ Ok (Alpn ([] ∷ []))
empty_protocol = refl

cut_protocol : take_value 1 (0x02 ∷ 0x68 ∷ []) ≡ Err Short
cut_protocol = refl

-- octets are left behind a port, and behind a value of no octets
short_port : take_value 3 (0x00 ∷ []) ≡ Err Short
short_port = refl

long_port : whole_taken (0x00 ∷ 0x35 ∷ 0x00 ∷ []) (take_value 3 (0x00 ∷ 0x35 ∷ 0x00 ∷ []))
    ≡ Err Form
long_port = refl

unknown_port : value_in 3 (0x00 ∷ 0x35 ∷ 0x00 ∷ []) ≡ Unknown 3 (0x00 ∷ 0x35 ∷ 0x00 ∷ [])
unknown_port = refl

whole_port : value_in 3 (0x00 ∷ 0x35 ∷ []) ≡ Port 53
whole_port = refl

no_default_alpn : whole_taken [] (take_value 2 []) ≡ Ok NoDefaultAlpn
no_default_alpn = refl

long_ohttp : whole_taken (0x00 ∷ []) (take_value 8 (0x00 ∷ [])) ≡ Err Form
long_ohttp = refl

-- addresses have 4 or 16 octets
three_octets : take_value 4 (192 ∷ 0 ∷ 2 ∷ []) ≡ Err Form
three_octets = refl

no_addresses : whole_taken [] (take_value 6 []) ≡ Ok (Ipv6Hint [])
no_addresses = refl

-- there is at least one group
no_groups : take_value 9 [] ≡ Err Form
no_groups = refl

-- keys without a type take any octets
any_octets : value_in 10 (0x00 ∷ 0x00 ∷ []) ≡ Unknown 10 (0x00 ∷ 0x00 ∷ [])
any_octets = refl

any_ech : value_in 5 (0xaa ∷ []) ≡ Ech (0xaa ∷ [])
any_ech = refl
