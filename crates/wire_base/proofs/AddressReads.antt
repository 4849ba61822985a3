-- What std reads as an address is what the definitions of texts say.
use Rattle.std.proofs.Common.{◌≡◌, ℕ, List, Option, Some, None, refl, sym, ap, ◌∙◌}
use Rattle.std.specs.declared.net.ipv4_addr.Ipv4Addr.{Ipv4Addr}
use Rattle.std.specs.declared.net.ipv6_addr.Ipv6Addr.{Ipv6Addr}
use Rattle.std.specs.Net.Addr.{ipv4_octets, ipv6_octets, ipv6_segments}
use Rattle.std.specs.Net.Grammar.{IsIpv4Text, IsIpv6Text}
use Rattle.name_spec.specs.Addresses.{ipv4_of, ipv6_of}
use Rattle.name_spec.proofs.AddressTexts.{ipv4_spelled, ipv4_read, ipv6_spelled, ipv6_read}

-- nothing is read where no octets are
none_read : (read : Option (List ℕ)) → ((octets : List ℕ) → read ≡ Some octets → ⊥) → None ≡ read
none_read None never = refl
none_read (Some octets) never = absurd (never octets refl)

pub ipv4_found : (text octets : List ℕ) (a : Ipv4Addr) → IsIpv4Text text a → octets ≡ ipv4_octets a
    → Some octets ≡ ipv4_of text
ipv4_found text octets a spelled same = ap Some same ∙ sym (ipv4_read text (ipv4_octets a) spelled)

pub ipv4_none : (text : List ℕ) → ((a : Ipv4Addr) → IsIpv4Text text a → ⊥) → None ≡ ipv4_of text
ipv4_none text never =
    none_read (ipv4_of text)
    (λ octets read. never (record { octets = octets }) (ipv4_spelled text octets read))

pub ipv6_found : (text octets : List ℕ) (a : Ipv6Addr) → IsIpv6Text text a → octets ≡ ipv6_octets a
    → Some octets ≡ ipv6_of text
ipv6_found text octets a spelled same =
    ap Some same ∙ sym (ipv6_read text (ipv6_octets a) (ipv6_segments a) spelled refl)

pub ipv6_none : (text : List ℕ) → ((a : Ipv6Addr) → IsIpv6Text text a → ⊥) → None ≡ ipv6_of text
ipv6_none text never =
    none_read (ipv6_of text)
    (λ octets read. let (segments, groups, same) = ipv6_spelled text octets read
    in never (record { segments = segments }) groups)
