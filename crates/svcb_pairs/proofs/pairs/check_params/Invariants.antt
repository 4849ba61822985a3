use Rattle.std.proofs.Common.{◌≡◌, ◌-◌, length}
use Rattle.std.specs.Result.{result_err}
use Rattle.svcb_pairs.specs.Parameters.{pairs_left, read_pairs}
use Rattle.svcb_pairs.proofs.pairs.check_params.Given as goal

abbrev pub invariant-loop-parser : goal.invariant-loop-parser
invariant-loop-parser l = record {
  place : l.parser ≡ record { message = l.octets; end = length l.octets; pos = l.parser.pos };
  fault : result_err (read_pairs l.octets) ≡ result_err (pairs_left l.parser l.last);
}

abbrev pub decreases-loop-parser : goal.decreases-loop-parser
decreases-loop-parser l = l.parser.end - l.parser.pos
