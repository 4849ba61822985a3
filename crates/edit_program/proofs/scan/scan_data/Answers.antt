-- A text without a fault is scanned from its first token.
use Rattle.std.proofs.Common.{subst}
use Rattle.text_spec.specs.Scanning.{Scan, Answers}
use Rattle.record_spec.specs.UnionTexts.{union_scan}
use Rattle.rdata_union.specs.Views.{data_of_zone}
use Rattle.input_lines.proofs.TokenLemmas.{entry_answers}
use Rattle.edit_program.proofs.scan.scan_data.Goals as goal

pub returns : goal.returns
returns c =
    let scanning = union_scan c.args.rtype in
    entry_answers data_of_zone scanning c.args.text.now c.scan.result c.in_ok-scanner.ensures.sound
    (subst (λ (old : Scan). Answers data_of_zone c.scan.result
    (scanning old.tokens old.taken).outcome) c.in_ok-scanner.ensures.answer
    c.scan.ensures.scans.answer)
