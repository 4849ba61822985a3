use Rattle.record_laws.proofs.IpseckeyLengths.{ipseckey-length}
use Rattle.record_laws.proofs.text_lengths.ipseckey_text_by_octets.Goals as goal

pub returns : goal.returns
returns c = ipseckey-length
