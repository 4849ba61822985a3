use Rattle.record_laws.proofs.IpseckeyOctets.{ipseckey_again}
use Rattle.record_laws.proofs.records.ipseckey_read_back.Goals as goal

pub returns : goal.returns
returns c = ipseckey_again
