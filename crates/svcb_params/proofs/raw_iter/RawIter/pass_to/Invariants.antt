use Rattle.std.proofs.Common.{◌≡◌, ℕ, ◌<◌, length}
use Rattle.svcb_spec.specs.PrintedParams.{holds_key}
use Rattle.svcb_pairs.specs.Parameters.{pairs_in}
use Rattle.svcb_params.proofs.raw_iter.RawIter.pass_to.Given as goal

abbrev pub invariant-loop-passed : goal.invariant-loop-passed
invariant-loop-passed l = record {
  found : holds_key (pairs_in l.self-inside.rest.slice.now) l.key ≡ holds_key l.fn.self l.key;
  behind : (above : ℕ) → l.key < above → holds_key (pairs_in l.self-inside.rest.slice.now) above
      ≡ holds_key l.fn.self above;
}

abbrev pub decreases-loop-passed : goal.decreases-loop-passed
decreases-loop-passed l = length l.self-inside.rest.slice.now
