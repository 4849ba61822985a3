-- What the verdict says.
use Rattle.std.proofs.lemmas.Result.{IfOk-weaker}
use Rattle.cds_check.proofs.VerdictLaws.{says_agree, says_cds, says_key}
use Rattle.cds_check.proofs.checking.check_cds.Goals as goal

pub returns-clause-agree : goal.returns-clause-agree
returns-clause-agree c =
    IfOk-weaker c.find_verdict.result _ _
    (says_agree c.args.owner.now c.args.cds.now c.args.keys.now) c.find_verdict.ensures.verdict

pub returns-clause-cds_alone : goal.returns-clause-cds_alone
returns-clause-cds_alone c =
    IfOk-weaker c.find_verdict.result _ _
    (says_cds c.args.owner.now c.args.cds.now c.args.keys.now) c.find_verdict.ensures.verdict

pub returns-clause-cdnskey_alone : goal.returns-clause-cdnskey_alone
returns-clause-cdnskey_alone c =
    IfOk-weaker c.find_verdict.result _ _
    (says_key c.args.owner.now c.args.cds.now c.args.keys.now) c.find_verdict.ensures.verdict
