use Rattle.std.proofs.Common.{arith}
use Rattle.std.proofs.lemmas.Bool.Decides.{nat_tests}
use Rattle.svcb_c.proofs.Next.{next_within, next_pair}
use Rattle.svcb_c.proofs.svcb_reading.hw_svcb_next.Goals as goal

pub returns-then-end-pos-lt4-clause-next : goal.returns-then-end-pos-lt4-clause-next
returns-then-end-pos-lt4-clause-next c last pairs in_message here read =
    let within = next_within c.args.message.now c.args.end c.args.pos last pairs
    (grind (arith, nat_tests)) here read in
    absurd (grind (arith, nat_tests))

pub returns-then-end-pos-clause-next : goal.returns-then-end-pos-clause-next
returns-then-end-pos-clause-next c last pairs in_message here read =
    let within = next_within c.args.message.now c.args.end c.args.pos last pairs
    (grind (arith, nat_tests)) here read in
    absurd (grind (arith, nat_tests))

pub returns-clause-next : goal.returns-clause-next
returns-clause-next c last pairs in_message here read =
    next_pair c.args.message.now c.args.end c.args.pos last pairs (grind (arith, nat_tests)) here
    read c.number-key.result c.number-len.result c.number-key.ensures c.number-len.ensures
