use Rattle.std.proofs.Common.{◌≡◌, None, Some, List, length}
use Rattle.text_spec.specs.declared.lexeme.Symbol.{Symbol}
use Rattle.text_spec.specs.Pieces.{token_groups}
use Rattle.dns_text.proofs.lexemes.Lexemes.pass_token.Given as goal

abbrev pub invariant-loop : goal.invariant-loop
invariant-loop l =
    (token : List Symbol) × (token_groups (Some token) l.self ≡ token_groups None l.fn.self)

abbrev pub decreases-loop : goal.decreases-loop
decreases-loop l = length l.self
