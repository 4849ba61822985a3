-- Values are read back from their texts.
use Rattle.std.proofs.Common.{◌≡◌, ℕ, ◌<◌, true, List, [], ◌∷◌, length, arith}
use Rattle.std.specs.List.{list_all, AllByRecursion}
use Rattle.std.proofs.lemmas.Bool.{and_parts}
use Rattle.name_spec.specs.AddressLaws.{AreOctets}
use Rattle.svcb_spec.specs.Values.{Mandatory, Alpn, NoDefaultAlpn, Port, Ipv4Hint, Ech, Ipv6Hint, DohPath, Ohttp, TlsSupportedGroups, Unknown, protocols_wire}
use Rattle.svcb_spec.specs.PrintedParams.{holds_key, ascends_above, has_some}
use Rattle.svcb_laws.specs.ParamTextLaws.{TypedReadBack, IsProtocol}
use Rattle.svcb_laws.proofs.TypedTexts.{no_default_alpn_again, ohttp_again, port_again, ech_again, dohpath_again, octets-front, ipv4hint_again, ipv6hint_again, groups_again, mandatory_value_again}
use Rattle.svcb_laws.proofs.AlpnTexts.{alpn_again}

protocols_octets : (protocols : List (List ℕ)) → AreOctets (protocols_wire protocols)
    → AllByRecursion AreOctets protocols
protocols_octets [] are = tt
protocols_octets (protocol ∷ protocols) are =
    let both = octets-front (length protocol ∷ protocol) (protocols_wire protocols) are in
    (both.0.1, protocols_octets protocols both.1)

some_of : (item : List ℕ) → has_some item ≡ true → 0 < length item
some_of [] some = absurd cc
some_of (c ∷ item) some = omega arith

are_protocols : (protocols : List (List ℕ)) → AllByRecursion (λ protocol. length protocol < 256) protocols
    → list_all has_some protocols ≡ true → AllByRecursion IsProtocol protocols
are_protocols [] short some = tt
are_protocols (protocol ∷ protocols) short some =
    let both = and_parts (has_some protocol) (list_all has_some protocols) some in (
      record { not_empty = some_of protocol both.0; fits = omega (arith, short.0) },
      are_protocols protocols short.1 both.1,
    )

-- a value that has a text of its own is read back from it
pub typed_again : TypedReadBack
typed_again pairs (Mandatory []) is are own = absurd cc
typed_again pairs (Mandatory (key ∷ keys)) is are own =
    let ascends =
    (and_parts (ascends_above 0 (key ∷ keys)) (list_all (holds_key pairs) (key ∷ keys)) own).0
    in
    mandatory_value_again key keys is.0 ascends is.1
typed_again pairs (Alpn []) is are own = absurd cc
typed_again pairs (Alpn (protocol ∷ protocols)) is are own =
    alpn_again protocol protocols (are_protocols (protocol ∷ protocols) is.0 own)
    (protocols_octets (protocol ∷ protocols) are) is.1
typed_again pairs NoDefaultAlpn is are own = no_default_alpn_again
typed_again pairs (Port port) is are own = port_again port is.0
typed_again pairs (Ipv4Hint []) is are own = absurd cc
typed_again pairs (Ipv4Hint (address ∷ addresses)) is are own =
    ipv4hint_again address addresses is.0 are is.1
typed_again pairs (Ech []) is are own = absurd cc
typed_again pairs (Ech (c ∷ octets)) is are own = ech_again (c ∷ octets) (omega arith) are is.1
typed_again pairs (Ipv6Hint []) is are own = absurd cc
typed_again pairs (Ipv6Hint (address ∷ addresses)) is are own =
    ipv6hint_again address addresses is.0 are is.1
typed_again pairs (DohPath octets) is are own = dohpath_again octets own is.1
typed_again pairs Ohttp is are own = ohttp_again
typed_again pairs (TlsSupportedGroups []) is are own = absurd (omega (arith, is.0.0))
typed_again pairs (TlsSupportedGroups (group ∷ groups)) is are own =
    groups_again group groups is.0.1 own is.1
typed_again pairs (Unknown key octets) is are own = absurd cc
