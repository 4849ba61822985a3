use Rattle.std.proofs.Common.{rules, ◌≡◌, ◌∙◌, ap, length}
use Rattle.text_spec.specs.declared.errors.ScanError.TheVariants.{MissingKey, UnknownGateway}
use Rattle.key_rdata.proofs.ScannedFields.{takes_all, not_missing, not_unknown}
use Rattle.key_rdata.proofs.ipseckey_texts.scan_behind_numbers.Goals as goal

pub returns-in_err-key-clause-missing : goal.returns-in_err-key-clause-missing
returns-in_err-key-clause-missing g c = λ is.
    let same : c.in_err-key.field-0.0 ≡ MissingKey = search rules in
    not_missing _ _ c.in_err-key.field-0.0 same c.in_err-key.ensures

pub returns-in_err-key-clause-unknown : goal.returns-in_err-key-clause-unknown
returns-in_err-key-clause-unknown g c = λ is.
    let same : c.in_err-key.field-0.0 ≡ UnknownGateway = search rules in
    not_unknown _ _ c.in_err-key.field-0.0 same c.in_err-key.ensures

pub returns-then-lacks_key-clause-missing : goal.returns-then-lacks_key-clause-missing
returns-then-lacks_key-clause-missing g c =
    λ is. takes_all _ _ _ c.in_ok-key.ensures ∙ ap length c.in_ok-gateway.ensures.scans.tokens
