use Rattle.std.proofs.Common.{◌≡◌, ◌&&◌, map, take}
use Rattle.std.specs.List.{list_any}
use Rattle.digest_rdata.specs.declared.cds.CdsFields.{CdsFields}
use Rattle.digest_rdata.specs.FieldsView.{FieldsView}
use Rattle.cds_check.specs.Matching.{matches}
use Rattle.cds_check.specs.Verdicts.{has_cds}
use Rattle.cds_check.specs.CdsSets.{has}
use Rattle.cds_check.proofs.checking.find_verdict.Given as goal

abbrev pub invariant-loop-key : goal.invariant-loop-key
invariant-loop-key l = record {
  found : (one : FieldsView CdsFields) → has l.found one
      ≡ (has l.asked.all one && list_any (matches l.owner one) (take l.key-index l.keys));
  marks : l.marks.items ≡ map (has_cds l.owner l.cds) (take l.key-index l.keys);
}
