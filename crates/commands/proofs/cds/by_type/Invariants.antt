-- The records so far, and those of the lines that are left, are those of all lines.
use Rattle.std.proofs.Common.{◌≡◌, ◌++◌, length}
use Rattle.std.specs.Vec.Iter.{into_iter_items, into_iter_len}
use Rattle.commands.specs.Cds.{cds_among, keys_among}
use Rattle.commands.proofs.cds.by_type.Given as goal

abbrev pub invariant-loop-line : goal.invariant-loop-line
invariant-loop-line l = record {
  cds : cds_among l.fn.found.items
      ≡ l.records.cds.items ++ cds_among (into_iter_items l.line-iterator);
  keys : keys_among l.fn.found.items
      ≡ l.records.keys.items ++ keys_among (into_iter_items l.line-iterator);
  count : into_iter_len l.line-iterator ≡ length (into_iter_items l.line-iterator);
}
