use Rattle.name_spec.proofs.AddressTexts.{ipv6_again}
use Rattle.name_spec.proofs.laws.ipv6_read_back.Goals as goal

pub returns : goal.returns
returns c = ipv6_again
