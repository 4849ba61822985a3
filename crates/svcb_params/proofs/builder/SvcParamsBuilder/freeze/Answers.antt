use Rattle.std.proofs.Common.{[], ◌++◌, ap, ◌∙◌}
use Rattle.svcb_spec.specs.Params.{wire}
use Rattle.svcb_pairs.specs.BuilderState.{BuilderState}
use Rattle.svcb_pairs.specs.LimitedPairsView.{builder_state}
use Rattle.svcb_pairs.proofs.Written.{is_written, written_pairs}
use Rattle.svcb_params.proofs.builder.SvcParamsBuilder.freeze.Goals as goal

pub from_checked_octets-requires : goal.from_checked_octets-requires
from_checked_octets-requires c =
    let pairs = (builder_state [] c.self.inside.pairs).pairs in
    is_written pairs _ c.self.invariant.builder.is_map
    (c.from_vec.ensures ∙ c.in_ok-compose.ensures.appends.ok
    ∙ ap (λ front. front ++ wire pairs) c.in_ok-octets.ensures.items)

pub returns : goal.returns
returns c =
    let pairs = (builder_state [] c.self.inside.pairs).pairs in
    c.from_checked_octets.ensures.pairs
    ∙ written_pairs pairs _ c.self.invariant.builder.is_map
    (c.from_vec.ensures ∙ c.in_ok-compose.ensures.appends.ok
    ∙ ap (λ front. front ++ wire pairs) c.in_ok-octets.ensures.items)
    ∙ ap (λ (builder : BuilderState). builder.pairs) c.self.view_is
