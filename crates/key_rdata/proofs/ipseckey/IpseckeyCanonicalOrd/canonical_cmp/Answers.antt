use Rattle.std.proofs.Common.{nat_cmp, ap₂, ◌∙◌}
use Rattle.record_spec.specs.Ipseckeys.{Ipseckey}
use Rattle.key_rdata.specs.IpseckeyView.{ipseckey_of}
use Rattle.key_rdata.proofs.Orders.{data_order-steps}
use Rattle.key_rdata.proofs.ipseckey.IpseckeyCanonicalOrd.canonical_cmp.Goals as goal

pub returns : goal.returns
returns c =
    let own = c.self.inside in
    let others = c.other.inside in
    let x : Ipseckey = ipseckey_of own.precedence own.algorithm own.gateway own.key in
    let y : Ipseckey = ipseckey_of others.precedence others.algorithm others.gateway others.key in
    let type = c.cmp-type_order.ensures
    ∙ ap₂ nat_cmp c.gateway_type.ensures c.gateway_type-2.ensures in
    rw (← c.self.view_is, ← c.other.view_is)
    (data_order-steps x y _ _ _ _ _ _ _ _ _ c.cmp.ensures type c.cmp-2.ensures c.octets_cmp.ensures
    c.cmp-3.ensures c.then.ensures c.then-2.ensures c.then-3.ensures c.then-4.ensures
    c.self.invariant.gateway c.other.invariant.gateway)
