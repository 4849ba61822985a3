use Rattle.svcb_laws.proofs.ReadOctets.{each_octet, read_data}
use Rattle.svcb_laws.proofs.data_texts.read_is_data.Goals as goal

pub returns : goal.returns
returns c = λ message start len found are in_message read.
    read_data message start len found are read
    (c.read_is_record.ensures message start len found (each_octet message are) in_message read)
