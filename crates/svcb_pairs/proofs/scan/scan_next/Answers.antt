use Rattle.std.proofs.Common.{◌∙◌, List, ℕ, Ok, Result, sym, ap, cond, is_ok, subst}
use Rattle.text_spec.specs.declared.errors.ScanError.{ScanError}
use Rattle.text_spec.specs.Scanning.{Scans, one, any_octets}
use Rattle.svcb_pairs.specs.Holding.{KeepsToken}
use Rattle.svcb_pairs.proofs.NextTokens.{next_kept}
use Rattle.svcb_pairs.proofs.scan.scan_next.Goals as goal

pub returns : goal.returns
returns g c =
    let scan = g.S.Scanner.scan in
    let old = scan c.args.scanner.now in
    let mid = scan c.scan_octets.new.self in
    let entries = c.args.values.now.entries in
    let entries' = c.keep_token-outcome.new.values.entries in
    let scanned : Scans {T = List ℕ} (λ octets. octets) (one any_octets) old mid
    (Ok c.in_ok-token.token) =
    subst (λ (r : Result (List ℕ) ScanError). Scans (λ octets. octets) (one any_octets) old mid r)
    c.in_ok-token.was c.scan_octets.ensures in
    let keeps : KeepsToken c.in_ok-token.token entries entries' c.rewind_unless_ok.result =
    subst (λ (r : Result ℕ ScanError). KeepsToken c.in_ok-token.token entries entries' r)
    (sym c.rewind_unless_ok.ensures.outcome)
    (subst (λ (octets : List ℕ). KeepsToken octets entries entries' c.keep_token-outcome.result)
    c.as_slice.ensures c.keep_token-outcome.ensures) in
    next_kept old mid (scan c.rewind_unless_ok.new.self) c.in_ok-token.token entries entries'
    c.rewind_unless_ok.result scanned keeps
    (c.rewind_unless_ok.ensures.place
    ∙ ap (λ (place : ℕ). record mid
    { taken = cond (is_ok c.rewind_unless_ok.result) mid.taken place })
    c.taken-place.ensures.taken)
