use Rattle.std.proofs.Common.{◌≡◌, ◌≤◌, List, Some, length}
use Rattle.text_spec.specs.declared.lexeme.Symbol.{Symbol}
use Rattle.text_spec.specs.Pieces.{token_groups}
use Rattle.dns_text.proofs.lexemes.Lexemes.next_symbol.Given as goal

abbrev pub invariant-loop-symbol : goal.invariant-loop-symbol
invariant-loop-symbol l = record {
  same : (token : List Symbol)
      → token_groups (Some token) l.self ≡ token_groups (Some token) l.fn.self;
  no_longer : length l.self ≤ length l.fn.self;
}

abbrev pub decreases-loop-symbol : goal.decreases-loop-symbol
decreases-loop-symbol l = length l.self
