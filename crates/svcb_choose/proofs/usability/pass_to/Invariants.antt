use Rattle.std.proofs.Common.{◌≡◌, ℕ, ◌<◌, length}
use Rattle.svcb_spec.specs.Params.{IsMap}
use Rattle.svcb_spec.specs.PrintedParams.{holds_key}
use Rattle.svcb_choose.proofs.usability.pass_to.Given as goal

abbrev pub invariant-loop-pair : goal.invariant-loop-pair
invariant-loop-pair l = record {
  found : holds_key l.pairs l.key ≡ holds_key l.fn.pairs l.key;
  behind : (above : ℕ) → l.key < above → holds_key l.pairs above ≡ holds_key l.fn.pairs above;
  is_map : IsMap l.pairs;
}

abbrev pub decreases-loop-pair : goal.decreases-loop-pair
decreases-loop-pair l = length l.pairs
