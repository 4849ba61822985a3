use Rattle.std.proofs.Common.{sym, ◌∙◌, arith}
use Rattle.svcb_params.proofs.HeldKeys.{not_here}
use Rattle.svcb_params.proofs.raw_iter.RawIter.pass_to.Goals as goal

pub returns-then-passed-key-clause-found : goal.returns-then-passed-key-clause-found
returns-then-passed-key-clause-found c =
    let rest = c.loop-passed.self-inside.rest in
    sym (not_here rest.slice.now _ _ _ c.in-Some.ensures c.args.key rest.are_parameters
    (omega arith)) ∙ c.loop-passed.invariant.found
