use Rattle.record_laws.proofs.IpseckeyLengths.{ipseckey-fits}
use Rattle.record_laws.proofs.text_lengths.ipseckey_line_fits.Goals as goal

pub returns : goal.returns
returns c = ipseckey-fits
