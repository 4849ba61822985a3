use Rattle.std.proofs.Common.{Ok, ap, ◌∙◌}
use Rattle.svcb_rdata.proofs.ReaderLaws.{pairs_read, no_fault_read}
use Rattle.svcb_rdata.proofs.laws.raw_pairs.Goals as goal

pub returns-in_err-found-clause-rebuilt : goal.returns-in_err-found-clause-rebuilt
returns-in_err-found-clause-rebuilt c =
    λ pairs are. absurd (no_fault_read _ pairs are _ c.in_err-found.ensures)

pub returns-clause-rebuilt : goal.returns-clause-rebuilt
returns-clause-rebuilt c =
    λ pairs are. ap Ok
    (c.iter_raw.ensures ∙ c.params.ensures ∙ pairs_read _ pairs are _ c.in_ok-found.ensures)
