use Rattle.std.proofs.Common.{◌≡◌, ◌≤◌, None, length}
use Rattle.text_spec.specs.Pieces.{token_groups}
use Rattle.dns_text.proofs.lexemes.Lexemes.find_token.Given as goal

abbrev pub invariant-loop-ahead : goal.invariant-loop-ahead
invariant-loop-ahead l = record {
  tokens : token_groups None l.self ≡ token_groups None l.fn.self;
  no_longer : length l.self ≤ length l.fn.self;
}

abbrev pub decreases-loop-ahead : goal.decreases-loop-ahead
decreases-loop-ahead l = length l.self
