use Rattle.record_laws.proofs.IpseckeyTexts.{ipseckey_text_again}
use Rattle.record_laws.proofs.records.ipseckey_text_read_back.Goals as goal

pub returns : goal.returns
returns c = ipseckey_text_again
