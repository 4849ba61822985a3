use Rattle.edit_program.proofs.GenDone.{gen_done}
use Rattle.edit_program.proofs.laws.gen_is_done.Goals as goal

pub returns : goal.returns
returns c = gen_done c.record_read_back.ensures
