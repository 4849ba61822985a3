use Rattle.std.proofs.Common.{sym, ap, ◌∙◌}
use Rattle.svcb_spec.specs.Params.{wire}
use Rattle.svcb_spec.proofs.WireLaws.{wire-pairs}
use Rattle.svcb_pairs.proofs.Reading.{pairs_in-back}
use Rattle.svcb_params.proofs.laws.equal_by_octets.Goals as goal

pub returns : goal.returns
returns c = λ a b is_a is_b. (
  λ same. ap wire same,
  λ same. sym (pairs_in-back (wire a) a (wire-pairs a is_a) is_a)
      ∙ pairs_in-back (wire a) b (same ∙ wire-pairs b is_b) is_b,
)
