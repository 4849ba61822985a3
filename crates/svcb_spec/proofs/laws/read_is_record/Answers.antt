use Rattle.svcb_spec.proofs.RecordLaws.{IsRecord-read}
use Rattle.svcb_spec.proofs.ItemLaws.{small_octets}
use Rattle.svcb_spec.proofs.laws.read_is_record.Goals as goal

pub returns : goal.returns
returns c = λ message start len found are in_message read. IsRecord-read message start len found
    (small_octets message are) in_message read
