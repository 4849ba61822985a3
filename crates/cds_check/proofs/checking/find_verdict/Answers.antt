use Rattle.std.proofs.Common.{◌∙◌, arith}
use Rattle.cds_check.specs.Verdicts.{has_cds}
use Rattle.cds_check.proofs.Sets.{found_more, marks_more, mark_is}
use Rattle.cds_check.proofs.VerdictLaws.{verdict_found}
use Rattle.cds_check.proofs.checking.find_verdict.Goals as goal

pub loop-key-preserved : goal.loop-key-preserved
loop-key-preserved c =
    let owner = c.args.owner.now in
    let cds = c.args.cds.now in
    let keys = c.args.keys.now in
    let j = c.loop-key.key-index in
    let key = c.key-item.result in
    record {
      found = λ one. found_more owner _ _ c.in_ok-asked.asked.all keys j key one (omega arith)
          c.key-item.is (c.loop-key.invariant.found one) (c.in_ok-add_cds_of.ensures.found one);
      marks = c.in_ok-push.ensures.items
          ∙ marks_more (has_cds owner cds) keys j key _ _ (omega arith) c.key-item.is
          c.loop-key.invariant.marks
          (c.in_ok-add_cds_of.ensures.is_asked
          ∙ mark_is owner key c.in_ok-asked.asked.all cds c.in_ok-asked.ensures);
    }

pub returns-clause-verdict : goal.returns-clause-verdict
returns-clause-verdict c =
    c.verdict_of.ensures
    ∙ verdict_found c.args.owner.now c.args.cds.now c.args.keys.now c.in_ok-asked.asked.all
    c.loop-key.found c.deref.result.now c.loop-key.key-index _ _ c.loop-key-test.false
    c.in_ok-asked.ensures c.loop-key.invariant.found
    (c.deref.ensures.value ∙ c.loop-key.invariant.marks) c.first_outside.ensures
    c.first_unmarked.ensures
