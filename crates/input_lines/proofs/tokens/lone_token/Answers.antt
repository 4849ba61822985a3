-- The first token is the only one where the test of the end passes.
use Rattle.std.proofs.lemmas.Result.{err_from_is_err_and}
use Rattle.input_lines.specs.Tokens.{lone_token}
use Rattle.text_spec.specs.Scanning.{any_octets}
use Rattle.input_lines.proofs.TokenLemmas.{lone-read, lone-other, lone-none, refused-none}
use Rattle.input_lines.proofs.tokens.lone_token.Goals as goal

pub returns-in_err-octets-clause-value : goal.returns-in_err-octets-clause-value
returns-in_err-octets-clause-value c =
    let p = err_from_is_err_and c.from_residual-in_err-octets.result
    c.from_residual-in_err-octets.ensures.1 in
    rw (p.1, p.2)
    (lone-none (λ octets. octets) any_octets c.args.line.now c.in_ok-scanner.scanner
    c.scan_octets.new.self c.in_ok-scanner.ensures.sound c.in_ok-scanner.ensures.answer
    c.in_err-octets.field-0.0 c.in_err-octets.ensures)

pub returns-in_err-check_end-clause-value : goal.returns-in_err-check_end-clause-value
returns-in_err-check_end-clause-value c =
    let line = c.args.line.now in
    let p = err_from_is_err_and c.from_residual-in_err-check_end.result
    c.from_residual-in_err-check_end.ensures.1 in
    let none = lone-other (λ octets. octets) any_octets line c.in_ok-scanner.scanner
    c.scan_octets.new.self c.in_ok-scanner.ensures.sound c.in_ok-scanner.ensures.answer
    c.in_ok-octets.octets c.in_ok-octets.ensures c.in_err-check_end.ensures.left in
    rw (p.1, p.2)
    (refused-none (λ octets. octets) c.in_err-check_end.field-0.0 (lone_token line) none)

pub returns-clause-value : goal.returns-clause-value
returns-clause-value c =
    lone-read (λ octets. octets) any_octets c.args.line.now c.in_ok-scanner.scanner
    c.scan_octets.new.self c.in_ok-scanner.ensures.sound c.in_ok-scanner.ensures.answer
    c.in_ok-octets.octets c.in_ok-octets.ensures c.in_ok-check_end.ensures.ok
