use Rattle.record_laws.proofs.IpseckeyReads.{ipseckey_reads}
use Rattle.record_laws.proofs.records.ipseckey_composed_back.Goals as goal

pub returns : goal.returns
returns c = ipseckey_reads
