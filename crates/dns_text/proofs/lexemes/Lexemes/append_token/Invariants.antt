use Rattle.std.proofs.Common.{length}
use Rattle.dns_text.proofs.BareOctets.{IsAppending}
use Rattle.dns_text.proofs.lexemes.Lexemes.append_token.Given as goal

abbrev pub invariant-loop-self : goal.invariant-loop-self
invariant-loop-self l = IsAppending l.fn.self l.self l.fn.target.items l.target.items

abbrev pub decreases-loop-self : goal.decreases-loop-self
decreases-loop-self l = length l.self
