use Rattle.std.proofs.Common.{Err, rules}
use Rattle.std.specs.Fn.{FnOnceReturnsAtMut}
use Rattle.svcb_pairs.specs.BuilderState.{BuilderState, empty_builder}
use Rattle.svcb_params.proofs.Refusals.{passed_on}
use Rattle.svcb_params.proofs.params.SvcParams.from_values.Goals as goal

pub returns-in_err-op-clause-err : goal.returns-in_err-op-clause-err
returns-in_err-op-clause-err g c =
    passed_on _ c.in_err-op.field-0.0
    (λ error. (left : BuilderState)
    × FnOnceReturnsAtMut g.F.FnOnce c.args.op empty_builder (Err error) left) (search rules)
    (c.op.new.arg2, search rules)
