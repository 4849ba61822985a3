use Rattle.std.proofs.Common.{true, subst, arith}
use Rattle.std.specs.Ordering.{nat_cmp}
use Rattle.std.specs.BTreeSet.{Updates}
use Rattle.svcb_choose.proofs.KeySets.{next_taken}
use Rattle.svcb_choose.proofs.usability.key_set.Goals as goal

pub loop-key-preserved : goal.loop-key-preserved
loop-key-preserved c =
    let l = c.loop-key in
    let added = c.insert.new.self in
    next_taken c.args.keys.now l.key-index c.key-item.result (omega arith) c.key-item.is l.known
    added
    (subst (λ key. Updates nat_cmp l.known added key true) c.from.ensures.0
    c.in_ok-insert.ensures.updates)
    l.invariant
