use Rattle.name_spec.proofs.AddressTexts.{ipv6_spelled, ipv6_read}
use Rattle.name_spec.proofs.laws.ipv6_by_grammar.Goals as goal

pub returns : goal.returns
returns c = λ text octets. (ipv6_spelled text octets, λ h. ipv6_read text octets h.0 h.1 h.2)
