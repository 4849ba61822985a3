use Rattle.std.proofs.Common.{◌∙◌, arith}
use Rattle.dns_text.proofs.Lengths.{length-tokens}
use Rattle.dns_text.proofs.entry_scanner.EntryScanner.new.Goals as goal

pub invariant_of-result : goal.invariant_of-result
invariant_of-result c =
    record {
      left = c.find_token-has_next.ensures.tokens ∙ c.new-lexemes.ensures;
      next = c.find_token-has_next.ensures.found;
      within = omega arith;
      short = omega (arith, length-tokens c.args.entry.text.now);
    }
