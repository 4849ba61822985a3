use Rattle.std.proofs.Common.{◌∙◌, ap, arith}
use Rattle.std.specs.Result.{result_err}
use Rattle.svcb_spec.proofs.PairLaws.{pairs_at-end}
use Rattle.svcb_pairs.proofs.Reading.{are_parameters}
use Rattle.svcb_pairs.proofs.pairs.check_params.Goals as goal

pub returns : goal.returns
returns c =
    are_parameters _ (λ i. omega (arith, c.type_inv.octets i))
    (c.loop-parser.invariant.fault ∙ ap result_err (pairs_at-end _ _ _ _ (omega arith)))
