use Rattle.std.proofs.Common.{◌∙◌, sym, [], ◌∷◌}
use Rattle.dns_text.proofs.NextTokens.{is_next, marked_as, unmarked_first, unmarked_second, ends_alone}
use Rattle.dns_text.proofs.entry_scanner.EntryScannerScanner.scan_opt_unknown_marker.Goals as goal

pub returns-in_default-next_symbol-clause-marked : goal.returns-in_default-next_symbol-clause-marked
returns-in_default-next_symbol-clause-marked c =
    sym (marked_as c.args.self.now.tokens c.args.self.now.taken [] _
    (sym c.in-Ok.ensures.left ∙ c.in_default-next_symbol.ensures.symbol []))

pub returns-then-not-is_marker-clause-marked : goal.returns-then-not-is_marker-clause-marked
returns-then-not-is_marker-clause-marked c =
    sym (unmarked_first c.args.self.now.tokens c.args.self.now.taken c.in-Some.symbol
    c.next_symbol.new.self (sym (c.in-Some.ensures.symbol []) ∙ c.in-Ok.ensures.left)
    (sym c.if-not-is_marker.ensures))

pub returns-then-is_some-clause-marked : goal.returns-then-is_some-clause-marked
returns-then-is_some-clause-marked c =
    sym (unmarked_second c.args.self.now.tokens c.args.self.now.taken c.in-Some.symbol
    c.next_symbol-2.result c.next_symbol.new.self c.next_symbol-2.new.self
    (sym (c.in-Some.ensures.symbol []) ∙ c.in-Ok.ensures.left) c.next_symbol-2.ensures.symbol
    (sym c.if-is_some.ensures))

pub take-requires : goal.take-requires
take-requires c =
    let left = ends_alone c.args.self.now.tokens c.args.self.now.taken c.in-Some.symbol
    c.next_symbol-2.result c.next_symbol.new.self c.next_symbol-2.new.self
    (sym (c.in-Some.ensures.symbol []) ∙ c.in-Ok.ensures.left) c.next_symbol-2.ensures.symbol
    (sym c.if-is_some.ensures) in
    let next = is_next c.args.self.now.tokens c.args.self.now.taken _ _ left in
    record { behind = next.behind; more = next.more }

pub returns-clause-marked : goal.returns-clause-marked
returns-clause-marked c =
    let left = ends_alone c.args.self.now.tokens c.args.self.now.taken c.in-Some.symbol
    c.next_symbol-2.result c.next_symbol.new.self c.next_symbol-2.new.self
    (sym (c.in-Some.ensures.symbol []) ∙ c.in-Ok.ensures.left) c.next_symbol-2.ensures.symbol
    (sym c.if-is_some.ensures) in
    sym (marked_as c.args.self.now.tokens c.args.self.now.taken (c.in-Some.symbol ∷ []) _ left
    ∙ sym c.if-not-is_marker.ensures)
