-- How long the texts of values and of pairs are.
use Rattle.std.proofs.Common.{◌≡◌, ℕ, ◌+◌, ◌*◌, ◌<◌, ◌≤◌, true, false, cond, List, [], ◌∷◌, map, length, codes, sym, subst, arith, length-append}
use Rattle.std.specs.Fmt.{decimal}
use Rattle.std.specs.List.{concat, AllByRecursion}
use Rattle.std.specs.Str.{is_utf8}
use Rattle.name_spec.specs.Printed.{printed_octets}
use Rattle.name_spec.specs.Addresses.{ipv4_text, ipv6_text}
use Rattle.name_spec.specs.AddressLaws.{AreOctets}
use Rattle.svcb_spec.specs.Params.{Pair, Pairs}
use Rattle.svcb_spec.specs.ReadingValues.{value_in}
use Rattle.svcb_spec.specs.Values.{Value, Mandatory, Alpn, NoDefaultAlpn, Port, Ipv4Hint, Ech, Ipv6Hint, DohPath, Ohttp, TlsSupportedGroups, Unknown, encode, numbers16_wire, protocols_wire, HasItems}
use Rattle.svcb_spec.proofs.ValueLaws.{IsIn, values_in_octets}
use Rattle.text_spec.specs.Encodings.{base64_text}
use Rattle.svcb_spec.specs.ListTexts.{escaped_item}
use Rattle.svcb_spec.specs.PrintedParams.{has_own_text, pair_printed}
use Rattle.svcb_spec.specs.PrintedValues.{key_name, opaque_key_name, utf8_or_printed, opaque_text, value_printed}
use Rattle.svcb_laws.proofs.DataOctets.{octets_parts}
use Rattle.svcb_laws.proofs.ReadOctets.{each_octet}
use Rattle.svcb_laws.proofs.AddressLengths.{ipv4-length, ipv6-length}
use Rattle.svcb_laws.proofs.PieceLengths.{octets-length, item-length, number-length, key-length, opaque_key-length, base64-length, with_text-length, room, with_items-length}

-- ---- items, each with a separator

keys-length : (keys : List ℕ) → AllByRecursion (λ key. key < 65536) keys
    → room (map key_name keys) ≤ 11 * length (numbers16_wire keys)
keys-length [] small = omega arith
keys-length (key ∷ keys) small =
    let first = key-length key small.0 in
    let others = keys-length keys small.1 in
    omega arith

groups-length : (groups : List ℕ) → AllByRecursion (λ group. group < 65536) groups
    → room (map decimal groups) ≤ 11 * length (numbers16_wire groups)
groups-length [] small = omega arith
groups-length (group ∷ groups) small =
    let first = number-length group small.0 in
    let others = groups-length groups small.1 in
    omega arith

abbrev protocol_text : List ℕ → List ℕ
protocol_text protocol = printed_octets (escaped_item protocol)

protocols-length : (protocols : List (List ℕ))
    → room (map protocol_text protocols) ≤ 11 * length (protocols_wire protocols)
protocols-length [] = omega arith
protocols-length (protocol ∷ protocols) =
    let escaped = item-length protocol in
    let first = octets-length (escaped_item protocol) in
    let others = protocols-length protocols in
    omega (arith, escaped, first, others, length-append protocol (protocols_wire protocols))

ipv4s-length : (addresses : List (List ℕ)) → AllByRecursion (λ address. length address ≡ 4) addresses
    → AreOctets (concat addresses)
    → room (map ipv4_text addresses) ≤ 11 * length (concat addresses)
ipv4s-length [] four are = omega arith
ipv4s-length (address ∷ addresses) four are =
    let parts = octets_parts address (concat addresses) are in
    let own : length address ≡ 4 = four.0 in
    let first = ipv4-length address parts.0 in
    let others = ipv4s-length addresses four.1 parts.1 in
    omega (arith, own, first, others, length-append address (concat addresses))

ipv6s-length : (addresses : List (List ℕ)) → AllByRecursion (λ address. length address ≡ 16) addresses
    → AreOctets (concat addresses)
    → room (map ipv6_text addresses) ≤ 11 * length (concat addresses)
ipv6s-length [] sixteen are = omega arith
ipv6s-length (address ∷ addresses) sixteen are =
    let parts = octets_parts address (concat addresses) are in
    let own : length address ≡ 16 = sixteen.0 in
    let first = ipv6-length address own parts.0 in
    let others = ipv6s-length addresses sixteen.1 parts.1 in
    omega (arith, own, first, others, length-append address (concat addresses))

-- ---- values

opaque-length : (key : ℕ) (octets : List ℕ) → key < 65536
    → length (opaque_text key octets) ≤ 21 + 11 * length octets
opaque-length key octets small =
    let name = opaque_key-length key small in
    let text = octets-length octets in
    let both = with_text-length (opaque_key_name key) (printed_octets octets) in
    omega arith

utf8-length : (octets : List ℕ) → length (utf8_or_printed octets) ≤ 4 * length octets
utf8-length octets =
    elim (is_utf8 octets) as
    (λ plain. length (cond plain octets (printed_octets octets)) ≤ 4 * length octets) [
      | true ↦ omega arith
      | false ↦ octets-length octets
    ]

value-length : (value : Value) → HasItems value → AreOctets (encode value)
    → length (value_printed value) ≤ 21 + 11 * length (encode value)
value-length (Mandatory keys) has are =
    let items = keys-length keys has in
    let list = with_items-length (codes "mandatory") (map key_name keys) in
    omega arith
value-length (Alpn protocols) has are =
    let items = protocols-length protocols in
    let list = with_items-length (codes "alpn") (map protocol_text protocols) in
    omega arith
value-length NoDefaultAlpn has are = omega arith
value-length (Port port) has are = let number = number-length port has in omega arith
value-length (Ipv4Hint addresses) has are =
    let items = ipv4s-length addresses has are in
    let list = with_items-length (codes "ipv4hint") (map ipv4_text addresses) in
    omega arith
value-length (Ech octets) has are =
    let text = base64-length octets in
    let both = with_text-length (codes "ech") (base64_text octets) in
    omega arith
value-length (Ipv6Hint addresses) has are =
    let items = ipv6s-length addresses has are in
    let list = with_items-length (codes "ipv6hint") (map ipv6_text addresses) in
    omega arith
value-length (DohPath octets) has are =
    let text = utf8-length octets in
    let both = with_text-length (codes "dohpath") (utf8_or_printed octets) in
    omega arith
value-length Ohttp has are = omega arith
value-length (TlsSupportedGroups groups) has are =
    let items = groups-length groups has.1 in
    let list = with_items-length (codes "tls-supported-groups") (map decimal groups) in
    omega arith
value-length (Unknown key octets) has are = opaque-length key octets has

-- ---- pairs

pub pair-length : (pairs : Pairs) (pair : Pair) → pair.0 < 65536 → length pair.1 < 65536
    → AreOctets pair.1
    → length (pair_printed pairs pair) ≤ 21 + 11 * length pair.1
pair-length pairs pair small few are =
    let value = value_in pair.0 pair.1 in
    let found : IsIn pair.0 pair.1 value =
    values_in_octets pair.0 pair.1 small few (each_octet pair.1 are) in
    let typed = value-length value found.0.0 (subst AreOctets (sym found.2) are) in
    elim (has_own_text pairs value) as
    (λ own. length (cond own (value_printed value) (opaque_text pair.0 pair.1))
    ≤ 21 + 11 * length pair.1) [
      | true ↦ subst (λ octets. length (value_printed value) ≤ 21 + 11 * length octets) found.2
          typed
      | false ↦ opaque-length pair.0 pair.1 small
    ]
