use Rattle.std.proofs.Common.{◌∙◌, inl, inr}
use Rattle.wire_base.proofs.NameComparisons.{lower_cmp-end}
use Rattle.wire_base.proofs.name_comparisons.lowercase_cmp.Goals as goal

pub returns : goal.returns
returns c =
    let so_far = c.loop-octet.invariant in
    c.cmp-2.ensures
    ∙ lower_cmp-end _ _ c.args.octets.now c.args.others.now so_far.order so_far.as_far
    (elim c.in-None.ensures.steps [ inl ended ↦ inl ended.1.0 | inr ended ↦ inr ended.1.0 ])
