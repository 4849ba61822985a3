use Rattle.std.proofs.Common.{◌≡◌, Some, length, drop}
use Rattle.text_spec.specs.Pieces.{token_groups}
use Rattle.dns_text.proofs.entry_scanner.EntryScanner.peek.Given as goal

-- the symbols so far begin the next token
abbrev pub invariant-loop-symbol : goal.invariant-loop-symbol
invariant-loop-symbol l =
    token_groups (Some l.symbols.items) l.lexemes ≡ drop l.self.taken l.self.tokens

abbrev pub decreases-loop-symbol : goal.decreases-loop-symbol
decreases-loop-symbol l = length l.lexemes
