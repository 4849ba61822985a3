use Rattle.std.proofs.Common.{◌∙◌, sym, Ok}
use Rattle.dns_text.proofs.NextTokens.{is_next, token_here}
use Rattle.dns_text.proofs.entry_scanner.EntryScanner.peek.Goals as goal

pub returns-clause-answer : goal.returns-clause-answer
returns-clause-answer c =
    let left = sym c.loop-symbol.invariant
    ∙ c.in_default.ensures.symbol c.loop-symbol.symbols.items in
    token_here (λ token. Ok token) c.args.self.now.tokens c.args.self.now.taken _
    (is_next c.args.self.now.tokens c.args.self.now.taken _ _ left).here

pub returns-clause-behind : goal.returns-clause-behind
returns-clause-behind c =
    let left = sym c.loop-symbol.invariant
    ∙ c.in_default.ensures.symbol c.loop-symbol.symbols.items in
    let next = is_next c.args.self.now.tokens c.args.self.now.taken _ _ left in
    record { behind = next.behind; more = next.more }
