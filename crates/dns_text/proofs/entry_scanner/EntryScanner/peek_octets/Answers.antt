use Rattle.std.proofs.Common.{◌∙◌, sym, ap, Ok, List, ℕ, ◌++◌}
use Rattle.text_spec.specs.Scanning.{any_octets, octets_of}
use Rattle.dns_text.proofs.NextTokens.{is_next, token_here}
use Rattle.dns_text.proofs.entry_scanner.EntryScanner.peek_octets.Goals as goal

pub returns-clause-answer : goal.returns-clause-answer
returns-clause-answer c =
    let read = c.in_ok-append_token.ensures.ok in
    let left = sym c.in_ok-lexemes.ensures.left ∙ read.passed in
    token_here any_octets c.args.self.now.tokens c.args.self.now.taken _
    (is_next c.args.self.now.tokens c.args.self.now.taken _ _ left).here
    ∙ ap Ok (sym (c.from_vec.ensures ∙ read.appended
    ∙ ap (λ (front : List ℕ). front ++ octets_of read.token) c.new-octets.ensures.items))

pub returns-clause-behind : goal.returns-clause-behind
returns-clause-behind c =
    let left = sym c.in_ok-lexemes.ensures.left ∙ c.in_ok-append_token.ensures.ok.passed in
    let next = is_next c.args.self.now.tokens c.args.self.now.taken _ _ left in
    record { behind = next.behind; more = next.more }
