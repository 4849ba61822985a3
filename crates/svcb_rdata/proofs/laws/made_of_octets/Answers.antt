use Rattle.std.proofs.Common.{◌∙◌, ap, subst, arith}
use Rattle.name_spec.specs.Names.{name_wire, AreLabels}
use Rattle.svcb_spec.specs.Params.{wire, IsMap}
use Rattle.svcb_spec.specs.Records.{IsRecord}
use Rattle.svcb_rdata.proofs.TextLemmas.{data_of_octets}
use Rattle.svcb_rdata.proofs.laws.made_of_octets.Goals as goal

pub returns : goal.returns
returns g c =
    let found = c.args.found.now in
    let is : IsRecord found = record {
      priority = omega (arith, c.priority-priority.ensures, c.priority-priority.type_inv);
      labels = subst (AreLabels 0) c.target.ensures c.as_slice.ensures.labels;
      is_map = subst IsMap c.params.ensures c.as_slice-2.ensures.is_map;
      fits = omega (arith, c.len-len.ensures, c.len-len.type_inv);
    } in
    data_of_octets found c.as_slice.result.now c.as_slice-2.result.now is
    (c.as_slice.ensures.octets ∙ ap name_wire c.target.ensures)
    (c.as_slice-2.ensures.octets ∙ ap wire c.params.ensures)
    c.slice_of_octets.ensures c.slice_of_octets-2.ensures
