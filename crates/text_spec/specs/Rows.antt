-- What the scans of single fields and of whole data read, from a place in the entry's tokens.
use Rattle.std.specs.Prelude.{ℕ, ◌^◌, ◌==◌, if◌then◌else◌, List, length, drop, Option, Result}
use Rattle.std.specs.List.{flat_map}
use Rattle.std.specs.Option.{ok_or}
use Rattle.name_spec.specs.Addresses.{ipv4_of, ipv6_of}
use Rattle.registry.specs.Texts.{spelled_number}
use Rattle.text_spec.specs.declared.errors.ScanError.{ScanError}
use Rattle.text_spec.specs.declared.errors.ScanError.TheVariants.{BadNumber, BadName, BadAddress, BadBase64, BadBase16}
use Rattle.text_spec.specs.declared.lexeme.Symbol.{Symbol}
use Rattle.text_spec.specs.Scanning.{Scanning, one, rest_by, scan_then, done, refused, octets_of, by_octets}
use Rattle.text_spec.specs.NameTexts.{name_of}
use Rattle.text_spec.specs.Encodings.{base16_of, base64_of}

-- a number text below a bound
abbrev pub number_below : ℕ → Scanning ℕ
number_below bound = one (by_octets (spelled_number bound) BadNumber)

-- a number of a registry, which `reads` its text
abbrev pub number_by : (List ℕ → Option ℕ) → Scanning ℕ
number_by reads = one (by_octets reads BadNumber)

-- what a token means as a name
abbrev pub by_name : List Symbol → Result (List (List ℕ)) ScanError
by_name token = ok_or (name_of token) BadName

-- a name
abbrev pub name : Scanning (List (List ℕ))
name = one by_name

-- the octets of all tokens left, joined
abbrev pub rest_octets : Scanning (List ℕ)
rest_octets tokens place = done (flat_map octets_of (drop place tokens)) (length tokens)

-- all tokens left as base64
abbrev pub rest_base64 : Scanning (List ℕ)
rest_base64 = rest_by base64_of BadBase64

-- all tokens left as base16
abbrev pub rest_base16 : Scanning (List ℕ)
rest_base16 = rest_by base16_of BadBase16

-- an IPv4 address, as its four octets
abbrev pub ipv4_address : Scanning (List ℕ)
ipv4_address = one (by_octets ipv4_of BadAddress)

-- an IPv6 address, as its 16 octets
abbrev pub ipv6_address : Scanning (List ℕ)
ipv6_address = one (by_octets ipv6_of BadAddress)

-- What follows the marker of data of any type (RFC 3597, section 5): a count, and that many octets
-- in base16. A count that isn't that of the octets is refused before its own token.
abbrev pub unknown_data : Scanning (List ℕ)
unknown_data tokens place =
    scan_then (number_below (2 ^ 16) tokens place) (λ count after.
    scan_then (rest_base16 tokens after) (λ octets end.
    if length octets == count then done octets end else refused BadNumber place))
