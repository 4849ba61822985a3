use Rattle.std.proofs.Common.{◌≡◌, None, drop}
use Rattle.text_spec.specs.Pieces.{token_groups}
use Rattle.text_spec.specs.Tokens.{tokens_in}
use Rattle.dns_text.proofs.entry_scanner.EntryScannerScanner.go_back.Given as goal

-- so many tokens are passed
abbrev pub invariant-loop : goal.invariant-loop
invariant-loop l =
    token_groups None l.lexemes ≡ drop l.counter (tokens_in l.self-inside.entry.text.now)
