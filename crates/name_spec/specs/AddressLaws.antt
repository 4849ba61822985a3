-- Laws of the texts of addresses, which the functions of `src/laws.rt` state.
use Rattle.std.specs.Prelude.{◌≡◌, ℕ, ◌<◌, ◌↔◌, List, length, Some}
use Rattle.std.specs.List.{AllByRecursion}
use Rattle.std.specs.Net.Addr.{octets_of}
use Rattle.std.specs.Net.Grammar.{IsDotted, IsColonHex}
use Rattle.name_spec.specs.Addresses.{ipv4_of, ipv6_of, ipv4_text, ipv6_text}

-- each number is an octet
abbrev pub AreOctets : List ℕ → Type 0
AreOctets octets = AllByRecursion (λ octet. octet < 256) octets

-- the text is read as these four octets exactly where it is four decimal numbers below 256 with
-- dots between them
abbrev pub Ipv4ByGrammar : Type 0
Ipv4ByGrammar = (text octets : List ℕ) → (ipv4_of text ≡ Some octets) ↔ IsDotted text octets

-- the text is read as these octets exactly where it is groups with colons, or with `::` once, whose
-- two last may be an IPv4 text (RFC 4291, section 2.2)
abbrev pub Ipv6ByGrammar : Type 0
Ipv6ByGrammar = (text octets : List ℕ)
    → (ipv6_of text ≡ Some octets)
    ↔ ((segments : List ℕ) × IsColonHex text segments × (octets_of segments ≡ octets))

-- four octets, printed and read
abbrev pub Ipv4ReadBack : Type 0
Ipv4ReadBack = (octets : List ℕ) → length octets ≡ 4 → AreOctets octets
    → ipv4_of (ipv4_text octets) ≡ Some octets

-- 16 octets, printed and read
abbrev pub Ipv6ReadBack : Type 0
Ipv6ReadBack = (octets : List ℕ) → length octets ≡ 16 → AreOctets octets
    → ipv6_of (ipv6_text octets) ≡ Some octets
