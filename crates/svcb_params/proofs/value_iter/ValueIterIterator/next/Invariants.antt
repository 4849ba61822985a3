use Rattle.std.proofs.Common.{◌≡◌, length}
use Rattle.svcb_pairs.specs.Parameters.{pairs_in}
use Rattle.svcb_params.specs.Items.{items}
use Rattle.svcb_params.proofs.value_iter.ValueIterIterator.next.Given as goal

abbrev pub invariant-loop-key : goal.invariant-loop-key
invariant-loop-key g l =
    let takes = g.V.ParseSvcParamValue.takes in
    let reads = g.V.ParseSvcParamValue.reads in
    items takes reads l.fn.self ≡ items takes reads (pairs_in l.self-inside.rest.slice.now)

abbrev pub decreases-loop-key : goal.decreases-loop-key
decreases-loop-key g l = length l.self-inside.rest.slice.now
