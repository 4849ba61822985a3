use Rattle.record_laws.proofs.ScannedIpseckeys.{scanned_ipseckey}
use Rattle.record_laws.proofs.records.scanned_is_ipseckey.Goals as goal

pub returns : goal.returns
returns c = scanned_ipseckey
