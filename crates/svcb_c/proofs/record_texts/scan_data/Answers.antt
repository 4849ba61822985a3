-- An entry is scanned from its first token.
use Rattle.std.proofs.Common.{◌≡◌, subst}
use Rattle.text_spec.specs.Scanning.{Scan, Answers}
use Rattle.record_spec.specs.UnionTexts.{union_scan}
use Rattle.rdata_union.specs.Views.{data_of_zone}
use Rattle.input_lines.proofs.TokenLemmas.{before, entry_answers}
use Rattle.svcb_c.proofs.record_texts.scan_data.Goals as goal

pub returns : goal.returns
returns c =
    let text = c.args.entry.text.now in
    let scanning = union_scan c.args.rtype in
    let begins : c.new-scanner.result ≡ before text = c.new-scanner.ensures in
    entry_answers data_of_zone scanning text c.scan.result c.args.entry.checked
    (subst (λ (old : Scan). Answers data_of_zone c.scan.result
    (scanning old.tokens old.taken).outcome) begins c.scan.ensures.scans.answer)
