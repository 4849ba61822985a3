use Rattle.std.proofs.Common.{take}
use Rattle.cds_check.specs.CdsSets.{Covers, IsSetOf}
use Rattle.cds_check.proofs.cds_sets.AskedCds.new.Given as goal

abbrev pub invariant-loop-one : goal.invariant-loop-one
invariant-loop-one l = record {
  all : IsSetOf l.all (take l.one-index l.cds);
  covers : Covers l.kinds l.all;
}
