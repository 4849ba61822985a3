use Rattle.record_laws.proofs.UnionTexts.{union_text_again}
use Rattle.record_laws.proofs.any_type.union_text_read_back.Goals as goal

pub returns : goal.returns
returns c = union_text_again c.fields_text_read_back.ensures c.types_are_rows.ensures
    c.ipseckey_text_read_back.ensures
