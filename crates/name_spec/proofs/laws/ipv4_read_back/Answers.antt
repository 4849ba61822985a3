use Rattle.name_spec.proofs.AddressTexts.{ipv4_again}
use Rattle.name_spec.proofs.laws.ipv4_read_back.Goals as goal

pub returns : goal.returns
returns c = ipv4_again
