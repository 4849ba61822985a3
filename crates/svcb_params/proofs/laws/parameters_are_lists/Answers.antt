use Rattle.std.proofs.Common.{sym, ◌∙◌}
use Rattle.svcb_spec.proofs.ItemLaws.{small_octets}
use Rattle.svcb_spec.proofs.PairsBack.{wire-pairs_at}
use Rattle.svcb_spec.proofs.WireLaws.{wire-pairs}
use Rattle.svcb_pairs.proofs.Reading.{read_pairs-back}
use Rattle.svcb_params.proofs.laws.parameters_are_lists.Goals as goal

pub returns : goal.returns
returns c = λ octets pairs are. (
  λ read. let known = wire-pairs_at octets pairs (small_octets octets are) read
      in (sym known.1 ∙ wire-pairs pairs known.0, known.0),
  λ is. read_pairs-back octets pairs is.0 is.1,
)
