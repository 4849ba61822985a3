-- The texts of addresses. Which texts are read, and what is printed (RFC 5952 for IPv6), are std's
-- definitions; the laws `Ipv4ByGrammar` and `Ipv6ByGrammar` say which texts are read by a grammar.
use Rattle.std.specs.Prelude.{ℕ, List, Option, option_map}
use Rattle.std.specs.Net.Addr.{octets_of, segments_of}
use Rattle.std.specs.Net.Reader.{read_ipv4, read_ipv6, whole_value}
use Rattle.std.specs.Net.Text as net

-- the four octets of the IPv4 address that a text spells
abbrev pub ipv4_of : List ℕ → Option (List ℕ)
ipv4_of text = whole_value (read_ipv4 text)

-- the 16 octets of the IPv6 address that a text spells
abbrev pub ipv6_of : List ℕ → Option (List ℕ)
ipv6_of text = option_map octets_of (whole_value (read_ipv6 text))

-- the text of four octets
abbrev pub ipv4_text : List ℕ → List ℕ
ipv4_text octets = net.ipv4_text octets

-- the text of 16 octets
abbrev pub ipv6_text : List ℕ → List ℕ
ipv6_text octets = net.ipv6_text (segments_of octets)
