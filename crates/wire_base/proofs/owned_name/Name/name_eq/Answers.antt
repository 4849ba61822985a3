use Rattle.name_spec.proofs.NameOrders.{same_by_octets}
use Rattle.wire_base.proofs.owned_name.Name.name_eq.Goals as goal

pub returns : goal.returns
returns c = same_by_octets _ _ _ _ _ c.as_slice.ensures.octets c.as_slice-2.ensures.octets
    c.as_slice.ensures.labels c.as_slice-2.ensures.labels c.eq_ignore_ascii_case.ensures.test
