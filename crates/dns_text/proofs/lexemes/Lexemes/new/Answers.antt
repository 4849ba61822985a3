use Rattle.std.proofs.Common.{◌≡◌, ◌∙◌, ap}
use Rattle.text_spec.specs.Lexing.{lexemes_at}
use Rattle.text_spec.specs.Tokens.{fault_of, start}
use Rattle.dns_text.proofs.lexemes.Lexemes.new.Goals as goal

pub invariant_of-result : goal.invariant_of-result
invariant_of-result c =
    let whole : lexemes_at c.new.result.state 0 c.new.result.rest.now
    ≡ lexemes_at start 0 c.args.entry.text.now = cc in
    ap fault_of whole ∙ c.args.entry.checked
