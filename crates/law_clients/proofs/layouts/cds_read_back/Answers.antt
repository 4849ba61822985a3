use Rattle.std.proofs.Common.{ap, ◌∙◌}
use Rattle.text_spec.specs.Layouts.{laid_out_text}
use Rattle.text_spec.specs.ScanningLaws.{answered, no_other_error}
use Rattle.record_spec.specs.Documents.{data_document}
use Rattle.record_spec.specs.Rows.{cds}
use Rattle.record_spec.specs.Texts.{scan_data}
use Rattle.rdata_union.specs.Views.{cds_of}
use Rattle.law_clients.proofs.Scans.{some_tokens, whole}
use Rattle.law_clients.proofs.layouts.cds_read_back.Goals as goal

pub scanner_of-requires : goal.scanner_of-requires
scanner_of-requires c =
    let found = cds_of c.args.found.now in
    some_tokens c.as_slice.result.now (laid_out_text c.args.kind (data_document cds found))
    (c.as_slice.ensures ∙ c.in_ok-text.ensures.text)
    (c.fields_scanned_back.ensures.layout c.args.kind).has

pub returns-clause-same : goal.returns-clause-same
returns-clause-same c =
    let found = cds_of c.args.found.now in
    answered cds_of found c.scan.result
    (whole cds_of (scan_data cds) c.as_slice.result.now
    (laid_out_text c.args.kind (data_document cds found)) c.scanner_of.result c.scan.result found
    (c.as_slice.ensures ∙ c.in_ok-text.ensures.text) c.scanner_of.ensures.tokens
    c.scanner_of.ensures.taken
    (λ tokens has. ap (λ s. s.outcome)
    ((c.fields_scanned_back.ensures.layout c.args.kind).scanned tokens has))
    c.scan.ensures.scans.answer)

pub returns-clause-only : goal.returns-clause-only
returns-clause-only c =
    let found = cds_of c.args.found.now in
    no_other_error cds_of found c.scan.result
    (whole cds_of (scan_data cds) c.as_slice.result.now
    (laid_out_text c.args.kind (data_document cds found)) c.scanner_of.result c.scan.result found
    (c.as_slice.ensures ∙ c.in_ok-text.ensures.text) c.scanner_of.ensures.tokens
    c.scanner_of.ensures.taken
    (λ tokens has. ap (λ s. s.outcome)
    ((c.fields_scanned_back.ensures.layout c.args.kind).scanned tokens has))
    c.scan.ensures.scans.answer)
