use Rattle.std.proofs.Common.{◌≡◌, ◌+◌, ◌<◌, length}
use Rattle.svcb_pairs.specs.Parameters.{pairs_in}
use Rattle.svcb_c.proofs.svcb_reading.count.Given as goal

abbrev pub invariant-loop-param : goal.invariant-loop-param
invariant-loop-param l = record {
  counted : l.count + length l._param-iterator ≡ length (pairs_in l.params.slice.now);
  few : length (pairs_in l.params.slice.now) < 65536;
}
