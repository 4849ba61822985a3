use Rattle.name_spec.proofs.AddressTexts.{ipv4_spelled, ipv4_read}
use Rattle.name_spec.proofs.laws.ipv4_by_grammar.Goals as goal

pub returns : goal.returns
returns c = λ text octets. (ipv4_spelled text octets, ipv4_read text octets)
