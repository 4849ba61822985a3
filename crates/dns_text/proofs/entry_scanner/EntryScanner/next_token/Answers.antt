use Rattle.std.proofs.Common.{◌∙◌, sym, ap, length, drop, None, arith}
use Rattle.std.proofs.lemmas.List.{length-drop}
use Rattle.text_spec.specs.Pieces.{token_groups}
use Rattle.text_spec.specs.Scanning.{Scan}
use Rattle.dns_text.proofs.NextTokens.{grouped-begins, more_left}
use Rattle.dns_text.proofs.entry_scanner.EntryScanner.next_token.Goals as goal

pub returns-then-not-self-clause-end : goal.returns-then-not-self-clause-end
returns-then-not-self-clause-end c =
    let left = ap (token_groups None) (sym (rw c.if-not-self.true at c.self.invariant.next))
    ∙ c.self.invariant.left ∙ ap (λ (scan : Scan). drop scan.taken scan.tokens) c.self.view_is in
    omega (arith, ap length left, length-drop c.args.self.now.taken c.args.self.now.tokens)

pub returns-clause-more : goal.returns-clause-more
returns-clause-more c =
    let left = sym (grouped-begins c.self.inside.lexemes
    (rw c.if-not-self.false at c.self.invariant.next))
    ∙ c.self.invariant.left ∙ ap (λ (scan : Scan). drop scan.taken scan.tokens) c.self.view_is in
    more_left c.self.inside.lexemes c.args.self.now.tokens c.args.self.now.taken left
