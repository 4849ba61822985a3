-- The table has each octet's place.
use Rattle.dns_text.proofs.PlainOctets.{place_in_table}
use Rattle.dns_text.proofs.plain_octets.places.Goals as goal

pub returns : goal.returns
returns c = place_in_table
