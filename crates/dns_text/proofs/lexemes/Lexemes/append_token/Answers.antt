use Rattle.dns_text.proofs.BareOctets.{appending-bare, appending-symbol, appending-done}
use Rattle.dns_text.proofs.lexemes.Lexemes.append_token.Goals as goal

pub returns-in_default-clause-ok : goal.returns-in_default-clause-ok
returns-in_default-clause-ok c =
    rw c.in_ok-extend_from_slice.ensures.items
    (appending-done c.args.self.now c.take_bare.new.self c.next_symbol.new.self
    c.args.target.now.items _
    (appending-bare c.args.self.now c.loop-self.self c.take_bare.new.self
    c.args.target.now.items c.loop-self.target.items c.take_bare.result.now c.loop-self.invariant
    c.take_bare.ensures.symbols) c.in_default.ensures.symbol)

pub loop-self-preserved : goal.loop-self-preserved
loop-self-preserved c =
    rw (c.in_ok-push.ensures.items, c.in_ok-extend_from_slice.ensures.items)
    (appending-symbol c.args.self.now c.take_bare.new.self c.next_symbol.new.self
    c.args.target.now.items _ c.in-Some.symbol
    (appending-bare c.args.self.now c.loop-self.self c.take_bare.new.self
    c.args.target.now.items c.loop-self.target.items c.take_bare.result.now c.loop-self.invariant
    c.take_bare.ensures.symbols) c.in-Some.ensures.symbol)
