use Rattle.std.proofs.Common.{◌∙◌, List, ℕ, Ok, Result, is_ok, cond, sym, ap, subst}
use Rattle.std.specs.Option.{ok_or}
use Rattle.text_spec.specs.declared.errors.ScanError.{ScanError}
use Rattle.text_spec.specs.declared.errors.ScanError.TheVariants.{BadBase64}
use Rattle.text_spec.specs.Encodings.{base64_of}
use Rattle.text_spec.specs.Scanning.{Scans, Answers}
use Rattle.text_spec.specs.Rows.{rest_octets}
use Rattle.dns_text.proofs.Rests.{rest_scan}
use Rattle.dns_text.proofs.scanner.Scanner.scan_rest_base64.Goals as goal

pub returns : goal.returns
returns g c =
    let scan = g.Self.Scanner.scan in
    let joined : Scans {T = List ℕ} (λ octets. octets) rest_octets (scan c.args.self.now)
    (scan c.scan_rest.new.self) (Ok c.in_ok-text.text) =
    subst (λ (r : Result (List ℕ) ScanError). Scans (λ octets. octets) rest_octets
    (scan c.args.self.now) (scan c.scan_rest.new.self) r) c.in_ok-text.was c.scan_rest.ensures
    in
    let answer : Answers {T = List ℕ} (λ octets. octets) c.rewind_unless_ok.result
    (ok_or (base64_of c.as_slice.result.now) BadBase64) =
    subst (λ (r : Result (List ℕ) ScanError). Answers (λ octets. octets) r
    (ok_or (base64_of c.as_slice.result.now) BadBase64))
    (sym c.rewind_unless_ok.ensures.outcome) c.decode_base64-outcome.ensures in
    rest_scan (λ octets. octets) base64_of BadBase64 (scan c.args.self.now)
    (scan c.scan_rest.new.self) (scan c.rewind_unless_ok.new.self) c.in_ok-text.text
    c.rewind_unless_ok.result joined
    (subst (λ (text : List ℕ). Answers {T = List ℕ} (λ octets. octets) c.rewind_unless_ok.result
    (ok_or (base64_of text) BadBase64)) c.as_slice.ensures answer)
    (c.rewind_unless_ok.ensures.place
    ∙ ap (λ (place : ℕ). record (scan c.scan_rest.new.self)
    { taken = cond (is_ok c.rewind_unless_ok.result) (scan c.scan_rest.new.self).taken place })
    c.taken-place.ensures.taken)
