use Rattle.edit_program.proofs.Back.{are_short, types_back}
use Rattle.edit_program.proofs.laws.types_are_scanned_back.Goals as goal

pub returns : goal.returns
returns c =
    types_back c.union_text_read_back.ensures c.unknown_text_by_octets.ensures
    (are_short c.read_is_data.ensures c.fields_composed_back.ensures
    c.ipseckey_composed_back.ensures c.data_line_fits.ensures
    c.types_lines_fit.ensures c.ipseckey_line_fits.ensures)
