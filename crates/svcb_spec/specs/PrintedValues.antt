-- How values are printed, each by itself (RFC 9460, section 7; RFC 9461, section 5; RFC 9540,
-- section 4).
use Rattle.std.specs.Prelude.{ℕ, nat_lt, ◌==◌, if◌then◌else◌, List, [], ◌∷◌, ◌++◌, length, map, codes}
use Rattle.std.specs.List.{join_with_byte}
use Rattle.std.specs.Fmt.{decimal}
use Rattle.std.specs.Str.{is_utf8}
use Rattle.name_spec.specs.Printed.{printed_octets}
use Rattle.name_spec.specs.Addresses.{ipv4_text, ipv6_text}
use Rattle.registry.specs.Keys.{parameter_keys}
use Rattle.registry.specs.Texts.{printed_key}
use Rattle.svcb_spec.specs.Values.{Value, Mandatory, Alpn, NoDefaultAlpn, Port, Ipv4Hint, Ech, Ipv6Hint, DohPath, Ohttp, TlsSupportedGroups, Unknown}
use Rattle.text_spec.specs.Encodings.{base64_text}
use Rattle.svcb_spec.specs.ListTexts.{escaped_item}

-- the text of a key
abbrev pub key_name : ℕ → List ℕ
key_name key = printed_key parameter_keys key

-- the name of a key whose value may have any octets: `key` and the number for a key that has a type
abbrev pub opaque_key_name : ℕ → List ℕ
opaque_key_name key = if nat_lt key 10 then codes "key" ++ decimal key else key_name key

-- a key and a text behind it; no text where it is empty
abbrev pub with_text : List ℕ → List ℕ → List ℕ
with_text key text = if length text == 0 then key else key ++ 61 ∷ text

-- a key and items with commas between them; nothing where there is none
abbrev pub with_items : List ℕ → List (List ℕ) → List ℕ
with_items key [] = []
with_items key (item ∷ items) = key ++ 61 ∷ join_with_byte 44 (item ∷ items)

-- octets that are UTF-8 as they are, else printed
abbrev pub utf8_or_printed : List ℕ → List ℕ
utf8_or_printed octets = if is_utf8 octets then octets else printed_octets octets

-- any octets under a key
abbrev pub opaque_text : ℕ → List ℕ → List ℕ
opaque_text key octets = with_text (opaque_key_name key) (printed_octets octets)

-- the text of a value
abbrev pub value_printed : Value → List ℕ
value_printed (Mandatory keys) = with_items (codes "mandatory") (map key_name keys)
value_printed (Alpn protocols) =
    with_items (codes "alpn") (map (λ protocol. printed_octets (escaped_item protocol)) protocols)
value_printed NoDefaultAlpn = codes "no-default-alpn"
value_printed (Port port) = codes "port=" ++ decimal port
value_printed (Ipv4Hint addresses) = with_items (codes "ipv4hint") (map ipv4_text addresses)
value_printed (Ech octets) = with_text (codes "ech") (base64_text octets)
value_printed (Ipv6Hint addresses) = with_items (codes "ipv6hint") (map ipv6_text addresses)
value_printed (DohPath octets) = with_text (codes "dohpath") (utf8_or_printed octets)
value_printed Ohttp = codes "ohttp"
value_printed (TlsSupportedGroups groups) =
    with_items (codes "tls-supported-groups") (map decimal groups)
value_printed (Unknown key octets) = opaque_text key octets
