use Rattle.std.proofs.Common.{◌≡◌, ◌∙◌, List, ℕ, Result, Err, rules, sym, subst}
use Rattle.text_spec.specs.declared.errors.ScanError.{ScanError}
use Rattle.text_spec.specs.Scanning.{ScansPart}
use Rattle.svcb_spec.specs.ParamTexts.{params}
use Rattle.svcb_pairs.specs.Parameters.{pairs_in}
use Rattle.svcb_pairs.proofs.AllTokens.{so_far-next, so_far-refused, all-missing, all-read, all-parameters}
use Rattle.svcb_pairs.proofs.scan.scan_left.Goals as goal

pub loop-alloc-preserved : goal.loop-alloc-preserved
loop-alloc-preserved g c =
    so_far-next _ _ _ _ _ c.loop-alloc.invariant (sym c.continues.ensures ∙ c.loop-alloc-test.true)
    c.in_ok-scan_next.ensures

pub returns-in_err-scan_next-clause-params : goal.returns-in_err-scan_next-clause-params
returns-in_err-scan_next-clause-params g c =
    let is : c.from_residual.result ≡ Err c.in_err-scan_next.field-0.0 = search rules in
    subst (λ (r : Result (List ℕ) ScanError). ScansPart pairs_in params
    (g.S.Scanner.scan c.args.scanner.now) (g.S.Scanner.scan c.scan_next.new.scanner) r) (sym is)
    (so_far-refused _ _ _ _ _ c.loop-alloc.invariant
    (sym c.continues.ensures ∙ c.loop-alloc-test.true) pairs_in c.in_err-scan_next.field-0.0
    c.in_err-scan_next.ensures)

pub returns-then-not-has_mandatory-clause-params : goal.returns-then-not-has_mandatory-clause-params
returns-then-not-has_mandatory-clause-params g c =
    all-missing _ _ _ c.loop-alloc.invariant (sym c.continues.ensures ∙ c.loop-alloc-test.false)
    pairs_in (sym c.has_mandatory.ensures ∙ c.if-not-has_mandatory.true)

pub returns-clause-params : goal.returns-clause-params
returns-clause-params g c =
    all-read _ _ _ c.loop-alloc.invariant (sym c.continues.ensures ∙ c.loop-alloc-test.false) _
    c.in_ok-compose.ensures (sym c.has_mandatory.ensures ∙ c.if-not-has_mandatory.false)

pub returns-clause-are : goal.returns-clause-are
returns-clause-are g c =
    all-parameters _ _ _ c.loop-alloc.invariant (sym c.continues.ensures ∙ c.loop-alloc-test.false)
    _ c.in_ok-compose.ensures
