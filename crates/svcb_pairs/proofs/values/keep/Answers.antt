use Rattle.std.proofs.Common.{◌∙◌, rules, arith}
use Rattle.svcb_pairs.proofs.OneMore.{held_before, held_more}
use Rattle.svcb_pairs.proofs.values.keep.Goals as goal

pub returns-in-Ok-Vacant : goal.returns-in-Ok-Vacant
returns-in-Ok-Vacant c = λ before holds.
    held_more before c.args.values.now.entries c.from.result c.args.value holds
    (c.from.ensures.0 ∙ c.key.ensures.key)
    (search rules) (omega (arith, c.from.type_inv))
    (omega (arith, c.compose_len-len.ensures.len, c.compose_len-len.type_inv)) _ (search rules)

pub returns-in-Ok-Occupied : goal.returns-in-Ok-Occupied
returns-in-Ok-Occupied c = λ before holds.
    held_before before c.args.values.now.entries c.from.result c.args.value holds
    (c.from.ensures.0 ∙ c.key.ensures.key) (search rules)
