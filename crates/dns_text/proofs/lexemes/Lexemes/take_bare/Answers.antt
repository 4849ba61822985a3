use Rattle.std.proofs.Common.{Some, length, sym, ap, ◌∙◌, arith}
use Rattle.text_spec.specs.Lexing.{lexemes_at}
use Rattle.text_spec.specs.Pieces.{token_groups}
use Rattle.dns_text.proofs.BareOctets.{takes_bare}
use Rattle.dns_text.proofs.lexemes.Lexemes.take_bare.Goals as goal

pub invariant_of-self : goal.invariant_of-self
invariant_of-self c =
    (takes_bare c.take_bare.result.now
    (lexemes_at c.self.inside.lexer.state 0 c.self.inside.lexer.rest.now) _
    c.take_bare.ensures.taken c.self.invariant).sound

pub returns-clause-symbols : goal.returns-clause-symbols
returns-clause-symbols c = λ token.
    ap (token_groups (Some token)) (sym c.self.view_is)
    ∙ (takes_bare c.take_bare.result.now
    (lexemes_at c.self.inside.lexer.state 0 c.self.inside.lexer.rest.now) _
    c.take_bare.ensures.taken c.self.invariant).symbols token

pub returns-clause-no_longer : goal.returns-clause-no_longer
returns-clause-no_longer c =
    omega (
      arith,
      (takes_bare c.take_bare.result.now
          (lexemes_at c.self.inside.lexer.state 0 c.self.inside.lexer.rest.now) _
          c.take_bare.ensures.taken c.self.invariant).no_longer,
      ap length c.self.view_is,
    )
