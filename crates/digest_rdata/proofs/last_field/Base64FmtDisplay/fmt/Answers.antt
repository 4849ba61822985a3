use Rattle.std.proofs.Output.{has_written_of_eq}
use Rattle.digest_rdata.proofs.last_field.Base64FmtDisplay.fmt.Goals as goal

pub returns-clause-writes : goal.returns-clause-writes
returns-clause-writes g c =
    λ plain ok. has_written_of_eq _ _ _ _ _ c.new.ensures (c.write.ensures.writes plain ok)
