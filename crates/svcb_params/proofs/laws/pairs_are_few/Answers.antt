use Rattle.std.proofs.Common.{◌*◌, ◌≤◌, length, sym, subst}
use Rattle.svcb_spec.proofs.WireLaws.{wire-pairs}
use Rattle.svcb_pairs.proofs.FirstPair.{few_pairs}
use Rattle.svcb_params.proofs.laws.pairs_are_few.Goals as goal

pub returns : goal.returns
returns c = λ pairs is_map. subst (λ octets. 4 * length pairs ≤ length octets)
    (sym (wire-pairs pairs is_map)) (few_pairs pairs)
