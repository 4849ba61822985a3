use Rattle.std.proofs.Common.{◌∙◌, sym}
use Rattle.std.proofs.lemmas.Result.{err_from_is_err_and}
use Rattle.text_spec.proofs.Skips.{lexemes_at-end, lexemes_at-refused, lexemes_at-read}
use Rattle.dns_text.proofs.BareOctets.{bare_read}
use Rattle.dns_text.proofs.lexer.Lexer.next.Goals as goal

pub returns-in_err-end_at-clause-taken : goal.returns-in_err-end_at-clause-taken
returns-in_err-end_at-clause-taken c =
    let fault = err_from_is_err_and c.from_residual.result c.from_residual.ensures.1 in
    rw (fault.1, fault.2)
    (lexemes_at-end c.args.self.now.state c.args.self.now.rest.now c.in_default.ensures.cases
    ∙ c.in_err-end_at.ensures)

pub returns-in_default-clause-taken : goal.returns-in_default-clause-taken
returns-in_default-clause-taken c =
    let end = lexemes_at-end c.args.self.now.state c.args.self.now.rest.now
    c.in_default.ensures.cases ∙ c.in_ok-end_at.ensures in
    (end, end)

pub returns-in_err-read-clause-taken : goal.returns-in_err-read-clause-taken
returns-in_err-read-clause-taken c =
    let fault = err_from_is_err_and c.from_residual-in_err-read.result
    c.from_residual-in_err-read.ensures.1 in
    rw (fault.1, fault.2)
    (lexemes_at-refused c.args.self.now.state c.in-Some.first.now c.in-Some.rest.now
    c.args.self.now.rest.now _ c.in-Some.ensures.cases.0 c.in_err-read.ensures.value)

pub returns-clause-taken : goal.returns-clause-taken
returns-clause-taken c =
    lexemes_at-read c.args.self.now.state c.in-Some.first.now c.in-Some.rest.now
    c.args.self.now.rest.now c.in_ok-read.read c.in-Some.ensures.cases.0
    c.in_ok-read.ensures.value

pub returns-then-is_bare_at-clause-taken : goal.returns-then-is_bare_at-clause-taken
returns-then-is_bare_at-clause-taken c =
    bare_read c.args.self.now.state c.in-Some.first.now c.in-Some.rest.now
    c.args.self.now.rest.now _ c.in-Some.ensures.cases.0
    (sym c.if-is_bare_at.ensures) c.bare.ensures
