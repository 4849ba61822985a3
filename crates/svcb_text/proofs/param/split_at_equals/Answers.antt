use Rattle.std.proofs.Common.{◌+◌, ◌∙◌, arith}
use Rattle.std.proofs.lemmas.List.{take_rest}
use Rattle.svcb_text.proofs.KeyLemmas.{key_text-at, value_text-at, key_text-all, value_text-all}
use Rattle.svcb_text.proofs.param.split_at_equals.Goals as goal

pub returns-then-c-eq61-clause-key : goal.returns-then-c-eq61-clause-key
returns-then-c-eq61-clause-key c =
    key_text-at c.loop-i.i c.args.token.now c.loop-i.invariant (omega arith) c.if-c-eq61.true

pub returns-then-c-eq61-clause-value : goal.returns-then-c-eq61-clause-value
returns-then-c-eq61-clause-value c =
    take_rest c.args.token.now (c.loop-i.i + 1)
    ∙ value_text-at c.loop-i.i c.args.token.now c.loop-i.invariant
    (omega arith) c.if-c-eq61.true

pub returns-clause-key : goal.returns-clause-key
returns-clause-key c = key_text-all c.args.token.now (λ k h. c.loop-i.invariant k (omega arith))

pub returns-clause-value : goal.returns-clause-value
returns-clause-value c = value_text-all c.args.token.now (λ k h. c.loop-i.invariant k (omega arith))
