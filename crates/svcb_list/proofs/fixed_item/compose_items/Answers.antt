use Rattle.std.proofs.Common.{◌≤◌, ◌/◌, ◌∙◌, length, subst}
use Rattle.svcb_list.proofs.BuildLemmas.{are_items}
use Rattle.svcb_list.proofs.fixed_item.compose_items.Goals as goal

pub returns-clause-items : goal.returns-clause-items
returns-clause-items g c =
    let few = subst (λ n. length c.args.items.now ≤ 65535 / n) c.LEN.ensures c.if-items-LEN.false in
    are_items g.I.FixedItem.octets g.I.FixedItem.LEN c.args.items.now _
    (c.from_vec.ensures ∙ c.in_ok-octets.ensures.joined)
    c.in_ok-octets.ensures.each c.requires few
