use Rattle.std.proofs.Common.{◌≡◌, ◌-◌, ◌≤◌, ◌++◌, length, drop}
use Rattle.svcb_pairs.specs.Parameters.{pairs_in, IsParameters}
use Rattle.svcb_pairs.specs.Spans.{limited_pairs, AreInside}
use Rattle.svcb_pairs.proofs.spans.spans_of.Given as goal

abbrev pub invariant-loop-key : goal.invariant-loop-key
invariant-loop-key l = record {
  are : IsParameters l.rest;
  shorter : length l.rest ≤ length l.octets;
  here : drop (length l.octets - length l.rest) l.octets ≡ l.rest;
  so_far : limited_pairs l.octets l.entries.items ++ pairs_in l.rest ≡ pairs_in l.octets;
  inside : AreInside (length l.octets) (length l.octets) l.entries.items;
}

abbrev pub decreases-loop-key : goal.decreases-loop-key
decreases-loop-key l = length l.rest
