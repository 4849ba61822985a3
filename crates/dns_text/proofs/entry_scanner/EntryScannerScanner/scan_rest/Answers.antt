use Rattle.std.proofs.Common.{Ok, refl, sym, ap, ◌∙◌}
use Rattle.text_spec.specs.Tokens.{tokens_in}
use Rattle.dns_text.proofs.Rests.{read_all, read_next}
use Rattle.dns_text.proofs.entry_scanner.EntryScannerScanner.scan_rest.Goals as goal

pub loop-lexemes-preserved : goal.loop-lexemes-preserved
loop-lexemes-preserved c =
    read_next (tokens_in c.self.inside.entry.text.now) c.self.inside.taken c.loop-lexemes.taken
    c.loop-lexemes.lexemes c.find_token.new.self c.append_token.new.self
    c.loop-lexemes.octets.items c.append_token.new.target.items c.loop-lexemes.invariant
    c.loop-lexemes-test.ensures.tokens c.loop-lexemes-test.ensures.found
    c.in_ok-append_token.ensures.ok

pub returns : goal.returns
returns c =
    let all = read_all (tokens_in c.self.inside.entry.text.now) c.self.inside.taken
    c.loop-lexemes.taken c.loop-lexemes.lexemes c.find_token.new.self c.loop-lexemes.octets.items
    c.loop-lexemes.invariant c.loop-lexemes-test.ensures.tokens
    c.loop-lexemes-test.ensures.found in
    rw (← c.self.view_is)
    (record {
      answer = ap Ok (sym (c.from_vec.ensures ∙ all.joined));
      place = all.end;
      tokens = refl;
    })
