use Rattle.std.proofs.Output.{has_written_of_eq}
use Rattle.svcb_value.proofs.ech.EchTypeOpaqueType.write_text.Goals as goal

pub returns : goal.returns
returns g c = λ plain ok. has_written_of_eq _ _ _ _ _ c.new.ensures
    (c.write.ensures.writes plain ok)
