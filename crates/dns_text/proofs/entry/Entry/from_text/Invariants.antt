use Rattle.std.proofs.Common.{◌≡◌, length}
use Rattle.text_spec.specs.Lexing.{lexemes_at}
use Rattle.text_spec.specs.Tokens.{fault_of, text_fault}
use Rattle.dns_text.proofs.entry.Entry.from_text.Given as goal

-- the fault of what is left is that of the text
abbrev pub invariant-loop : goal.invariant-loop
invariant-loop l = fault_of (lexemes_at l.lexer.state 0 l.lexer.rest.now) ≡ text_fault l.text

abbrev pub decreases-loop : goal.decreases-loop
decreases-loop l = length l.lexer.rest.now
