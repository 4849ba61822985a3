-- A text without a fault is scanned from its first token.
use Rattle.std.proofs.Common.{subst}
use Rattle.text_spec.specs.Scanning.{Scan, Answers}
use Rattle.input_lines.proofs.TokenLemmas.{entry_answers}
use Rattle.commands.specs.ZoneLines.{zone_record}
use Rattle.commands.proofs.zone_lines.scan_line.Goals as goal

pub returns : goal.returns
returns c =
    entry_answers (λ found. found) zone_record c.args.line.now c.zone_record.result
    c.in_ok-scanner.ensures.sound
    (subst (λ (old : Scan). Answers (λ found. found) c.zone_record.result
    (zone_record old.tokens old.taken).outcome) c.in_ok-scanner.ensures.answer
    c.zone_record.ensures)
