use Rattle.std.proofs.Common.{[], ap, ◌∙◌}
use Rattle.text_spec.specs.Layouts.{laid_out_text}
use Rattle.text_spec.specs.ScanningLaws.{answered, no_other_error}
use Rattle.svcb_spec.specs.DataDocuments.{svcb_document}
use Rattle.svcb_spec.specs.DataTexts.{svcb_data}
use Rattle.svcb_spec.specs.Records.{Record}
use Rattle.law_clients.proofs.Scans.{some_tokens, whole}
use Rattle.law_clients.proofs.layouts.svcb_read_back.Goals as goal

pub scanner_of-requires : goal.scanner_of-requires
scanner_of-requires g c =
    let found = c.args.found.now in
    some_tokens c.as_slice.result.now (laid_out_text c.args.kind (svcb_document found))
    (c.as_slice.ensures ∙ c.in_ok-text.ensures.text)
    (c.data_layout_read_back.ensures c.args.kind found c.made_of_octets.ensures).some

pub returns-clause-same : goal.returns-clause-same
returns-clause-same g c =
    let found = c.args.found.now in
    answered (λ (held : Record). held) found c.scan.result
    (whole (λ (held : Record). held) svcb_data c.as_slice.result.now
    (laid_out_text c.args.kind (svcb_document found)) c.scanner_of.result c.scan.result found
    (c.as_slice.ensures ∙ c.in_ok-text.ensures.text) c.scanner_of.ensures.tokens
    c.scanner_of.ensures.taken
    (λ tokens has. ap (λ s. s.outcome)
    ((c.data_layout_read_back.ensures c.args.kind found c.made_of_octets.ensures).scanned tokens has
    []))
    c.scan.ensures.scans.answer)

pub returns-clause-only : goal.returns-clause-only
returns-clause-only g c =
    let found = c.args.found.now in
    no_other_error (λ (held : Record). held) found c.scan.result
    (whole (λ (held : Record). held) svcb_data c.as_slice.result.now
    (laid_out_text c.args.kind (svcb_document found)) c.scanner_of.result c.scan.result found
    (c.as_slice.ensures ∙ c.in_ok-text.ensures.text) c.scanner_of.ensures.tokens
    c.scanner_of.ensures.taken
    (λ tokens has. ap (λ s. s.outcome)
    ((c.data_layout_read_back.ensures c.args.kind found c.made_of_octets.ensures).scanned tokens has
    []))
    c.scan.ensures.scans.answer)
