use Rattle.std.proofs.Common.{sym, arith, ap, ◌∙◌, ℕ, take, drop}
use Rattle.std.proofs.lemmas.List.Sums.{prefix_len-le-length}
use Rattle.text_spec.specs.Pieces.{is_bare, is_quotable}
use Rattle.text_spec.specs.Lexing.{lexemes_at}
use Rattle.dns_text.specs.Reading.{with_bare}
use Rattle.dns_text.proofs.BareOctets.{bare_run, quotable_run}
use Rattle.dns_text.proofs.lexer.bare_len_at.Goals as goal

pub returns-then-state-clause-read : goal.returns-then-state-clause-read
returns-then-state-clause-read c =
    quotable_run c.args.state c.args.text.now c.if-state.true
    ∙ ap (λ (n : ℕ). with_bare (take n c.args.text.now)
    (lexemes_at c.args.state 0 (drop n c.args.text.now))) (sym c.quotable_len.ensures)

pub returns-then-state-clause-within : goal.returns-then-state-clause-within
returns-then-state-clause-within c =
    omega (arith, c.quotable_len.ensures, prefix_len-le-length is_quotable c.args.text.now)

pub returns-else-state-2-clause-read : goal.returns-else-state-2-clause-read
returns-else-state-2-clause-read c =
    bare_run c.args.state c.args.text.now c.if-state-2.false
    ∙ ap (λ (n : ℕ). with_bare (take n c.args.text.now)
    (lexemes_at c.args.state 0 (drop n c.args.text.now))) (sym c.bare_len.ensures)

pub returns-else-state-2-clause-within : goal.returns-else-state-2-clause-within
returns-else-state-2-clause-within c =
    omega (arith, c.bare_len.ensures, prefix_len-le-length is_bare c.args.text.now)
