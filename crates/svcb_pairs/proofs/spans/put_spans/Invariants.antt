use Rattle.std.proofs.Common.{◌≡◌, ◌+◌, ◌≤◌, ◌++◌, length, vec_len}
use Rattle.std.specs.Vec.{vec_capacity}
use Rattle.svcb_spec.specs.Params.{pairs_wire}
use Rattle.svcb_pairs.specs.Spans.{limited_pairs, AreInside}
use Rattle.svcb_pairs.proofs.Builds.{AreShort}
use Rattle.svcb_pairs.proofs.spans.put_spans.Given as goal

abbrev pub invariant-loop-key : goal.invariant-loop-key
invariant-loop-key l = let octets = l.read ++ l.own in record {
  written : l.target.items ++ pairs_wire (limited_pairs octets l.key-iterator)
      ≡ l.fn.target.items ++ pairs_wire (limited_pairs octets l.spans.entries);
  room : vec_len l.target + length (pairs_wire (limited_pairs octets l.key-iterator))
      ≤ vec_capacity l.target;
  short : AreShort (limited_pairs octets l.key-iterator);
  inside : AreInside (length l.read) (length l.read + length l.own) l.key-iterator;
}
