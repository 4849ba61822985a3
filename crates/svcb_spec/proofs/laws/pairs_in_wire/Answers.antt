use Rattle.svcb_spec.proofs.PairsBack.{wire-pairs_at}
use Rattle.svcb_spec.proofs.ItemLaws.{small_octets}
use Rattle.svcb_spec.proofs.laws.pairs_in_wire.Goals as goal

pub returns : goal.returns
returns c = λ octets pairs are read. wire-pairs_at octets pairs (small_octets octets are) read
