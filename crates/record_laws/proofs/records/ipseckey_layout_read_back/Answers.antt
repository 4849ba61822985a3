use Rattle.record_laws.proofs.IpseckeyTexts.{ipseckey_layout_again}
use Rattle.record_laws.proofs.records.ipseckey_layout_read_back.Goals as goal

pub returns : goal.returns
returns c = ipseckey_layout_again
