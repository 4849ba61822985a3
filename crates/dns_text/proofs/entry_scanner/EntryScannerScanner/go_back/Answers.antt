use Rattle.std.proofs.Common.{◌∙◌, ap, drop}
use Rattle.std.proofs.lemmas.List.{drop-drop}
use Rattle.text_spec.specs.Tokens.{tokens_in}
use Rattle.dns_text.proofs.entry_scanner.EntryScannerScanner.go_back.Goals as goal

pub loop-preserved : goal.loop-preserved
loop-preserved c =
    c.pass_token.ensures ∙ ap (drop 1) c.loop.invariant
    ∙ drop-drop 1 c.loop.counter (tokens_in c.self.inside.entry.text.now)
