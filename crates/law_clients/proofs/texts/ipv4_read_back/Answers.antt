use Rattle.std.proofs.Common.{ℕ, List, [], ◌∷◌, ◌∙◌}
use Rattle.name_spec.specs.Addresses.{ipv4_text}
use Rattle.text_spec.specs.Rows.{ipv4_address}
use Rattle.text_spec.specs.ScanningLaws.{answered, no_other_error}
use Rattle.law_clients.proofs.Scans.{some_tokens, whole, address_scanned}
use Rattle.law_clients.proofs.texts.ipv4_read_back.Goals as goal

pub scanner_of-requires : goal.scanner_of-requires
scanner_of-requires c =
    let found = c.args.found.now in
    let is = c.ipv4_is_address.ensures in
    let own = c.ipv4_token_text.ensures found is.0 is.1 in
    some_tokens c.as_bytes.result.now (ipv4_text found)
    (c.as_bytes.ensures.value ∙ c.in_ok-text.ensures.ok)
    (own.0 ∷ [], c.token_is_entry.ensures (ipv4_text found) own.0 own.1)

pub returns-clause-same : goal.returns-clause-same
returns-clause-same c =
    let found = c.args.found.now in
    let is = c.ipv4_is_address.ensures in
    answered (λ (octets : List ℕ). octets) found c.scan_a.result
    (whole (λ (octets : List ℕ). octets) ipv4_address c.as_bytes.result.now (ipv4_text found)
    c.scanner_of.result c.scan_a.result found (c.as_bytes.ensures.value ∙ c.in_ok-text.ensures.ok)
    c.scanner_of.ensures.tokens c.scanner_of.ensures.taken
    (address_scanned c.ipv4_token_text.ensures c.token_is_entry.ensures c.tokens_read.ensures
    c.ipv4_read_back.ensures found is.0 is.1)
    c.scan_a.ensures.answer)

pub returns-clause-only : goal.returns-clause-only
returns-clause-only c =
    let found = c.args.found.now in
    let is = c.ipv4_is_address.ensures in
    no_other_error (λ (octets : List ℕ). octets) found c.scan_a.result
    (whole (λ (octets : List ℕ). octets) ipv4_address c.as_bytes.result.now (ipv4_text found)
    c.scanner_of.result c.scan_a.result found (c.as_bytes.ensures.value ∙ c.in_ok-text.ensures.ok)
    c.scanner_of.ensures.tokens c.scanner_of.ensures.taken
    (address_scanned c.ipv4_token_text.ensures c.token_is_entry.ensures c.tokens_read.ensures
    c.ipv4_read_back.ensures found is.0 is.1)
    c.scan_a.ensures.answer)
