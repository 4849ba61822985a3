use Rattle.edit_program.proofs.Back.{all_back}
use Rattle.edit_program.proofs.laws.all_data_back.Goals as goal

pub returns : goal.returns
returns c = all_back c.record_read_back.ensures c.union_text_read_back.ensures
    c.data_line_fits.ensures
