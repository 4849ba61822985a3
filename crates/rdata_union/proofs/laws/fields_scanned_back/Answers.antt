use Rattle.digest_rdata.specs.FieldsView.{data_of}
use Rattle.rdata_union.proofs.laws.fields_scanned_back.Goals as goal

pub returns-clause-text : goal.returns-clause-text
returns-clause-text g c =
    let fields = g.F.AssociationFields in
    c.fields_text_read_back.ensures fields.definition g.met.F.AssociationFields.is_lawful
    (data_of fields.numbers c.args.found.now) c.fields_are_data.ensures

pub returns-clause-layout : goal.returns-clause-layout
returns-clause-layout g c =
    let fields = g.F.AssociationFields in
    c.fields_layout_read_back.ensures fields.definition g.met.F.AssociationFields.is_lawful
    (data_of fields.numbers c.args.found.now) c.fields_are_data.ensures
