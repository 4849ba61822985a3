use Rattle.digest_rdata.specs.FieldsView.{data_of}
use Rattle.rdata_union.proofs.FieldOrders.{fields_in_order}
use Rattle.rdata_union.proofs.laws.cmp_is_canonical.Goals as goal

pub returns : goal.returns
returns g c =
    let fields = g.F.AssociationFields in
    fields_in_order fields.definition (data_of fields.numbers c.args.found.now)
    (data_of fields.numbers c.args.other.now) c.fields_are_data.ensures c.fields_are_data-2.ensures
