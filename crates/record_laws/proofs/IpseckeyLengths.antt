-- How long the text of IPSECKEY data is.
use Rattle.std.proofs.Common.{ℕ, ◌+◌, ◌*◌, ◌<◌, ◌≤◌, true, [], ◌∷◌, ◌++◌, length, codes, arith, length-append}
use Rattle.record_spec.specs.declared.Encoding.TheVariants.{Base64}
use Rattle.record_spec.specs.Texts.{numbers_printed, last_printed}
use Rattle.record_spec.specs.Ipseckeys.{Gateway, NoGateway, Ipv4Gateway, Ipv6Gateway, NameGateway, gateway_type, gateway_wire, IsGateway}
use Rattle.record_spec.specs.IpseckeyTexts.{gateway_text, ipseckey_printed}
use Rattle.svcb_laws.proofs.AddressLengths.{ipv4-length, ipv6-length}
use Rattle.svcb_laws.proofs.DataLengths.{target-length}
use Rattle.svcb_laws.proofs.PieceLengths.{octet-length}
use Rattle.record_laws.specs.TextLengthLaws.{IpseckeyTextByOctets, IpseckeyLineFits}
use Rattle.record_laws.proofs.FieldLengths.{last-length}

gateway-length : (gateway : Gateway) → IsGateway gateway
    → length (gateway_text gateway) ≤ 6 * length (gateway_wire gateway) + 1
gateway-length NoGateway is = omega arith
gateway-length (Ipv4Gateway octets) is = let text = ipv4-length octets is.1 in let four = is.0
    in omega (arith, four, text)
gateway-length (Ipv6Gateway octets) is = let text = ipv6-length octets is.0 is.1
    in let sixteen = is.0 in omega (arith, sixteen, text)
gateway-length (NameGateway labels) is = let text = target-length labels in omega (arith, text)

-- the numbers are octets
numbers-length : (a b c : ℕ) → a < 256 → b < 256 → c < 256
    → length (numbers_printed (a ∷ b ∷ c ∷ [])) ≤ 12
numbers-length a b c small_a small_b small_c =
    let len_a = octet-length a small_a in
    let len_b = octet-length b small_b in
    let len_c = octet-length c small_c in
    grind (arith, length-append)

type-small : (gateway : Gateway) → gateway_type gateway < 256
type-small NoGateway = omega arith
type-small (Ipv4Gateway octets) = omega arith
type-small (Ipv6Gateway octets) = omega arith
type-small (NameGateway labels) = omega arith

pub ipseckey-length : IpseckeyTextByOctets
ipseckey-length found is =
    let numbers = found.precedence ∷ gateway_type found.gateway ∷ found.algorithm ∷ [] in
    let len_numbers =
    numbers-length found.precedence (gateway_type found.gateway) found.algorithm is.precedence
    (type-small found.gateway) is.algorithm in
    let gateway = gateway-length found.gateway is.gateway in
    let key = last-length Base64 true found.key in
    omega (
      arith,
      len_numbers,
      gateway,
      key,
      length-append (numbers_printed numbers)
          (gateway_text found.gateway ++ codes " " ++ last_printed Base64 true found.key),
      length-append (gateway_text found.gateway ++ codes " ") (last_printed Base64 true found.key),
      length-append (gateway_text found.gateway) (codes " "),
    )

pub ipseckey-fits : IpseckeyLineFits
ipseckey-fits found is =
    let fits = is.fits in
    omega (arith, fits, ipseckey-length found is, length-append (ipseckey_printed found) (10 ∷ []))
