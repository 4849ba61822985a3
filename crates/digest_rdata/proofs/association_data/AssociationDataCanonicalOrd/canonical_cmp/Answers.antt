use Rattle.std.proofs.Common.{◌∙◌, ap, length, sym}
use Rattle.record_spec.specs.Rows.{Data}
use Rattle.digest_rdata.proofs.Orders.{data_order}
use Rattle.digest_rdata.proofs.association_data.AssociationDataCanonicalOrd.canonical_cmp.Goals as goal

pub returns : goal.returns
returns g c =
    let F = g.F.AssociationFields in
    let own = c.self.inside in
    let theirs = c.other.inside in
    let x : Data = record { numbers = F.numbers own.fields; last = own.last } in
    let y : Data = record { numbers = F.numbers theirs.fields; last = theirs.last } in
    let fixed = c.octets-fixed.ensures in
    let others = c.octets-others.ensures in
    rw (← c.self.view_is, ← c.other.view_is)
    (data_order F.definition x y c.as_slice.result.now c.as_slice-2.result.now _ _ _
    (c.as_slice.ensures ∙ fixed.wire) (c.as_slice-2.ensures ∙ others.wire)
    (ap length c.as_slice.ensures ∙ fixed.len ∙ sym (ap length c.as_slice-2.ensures ∙ others.len))
    c.cmp-by_fields.ensures c.cmp.ensures c.then.ensures)
