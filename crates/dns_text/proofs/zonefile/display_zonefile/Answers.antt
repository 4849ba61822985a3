use Rattle.std.proofs.Common.{◌≡◌, ◌∙◌, ap}
use Rattle.text_spec.specs.Layouts.{Sheet, laid_out, laid_out_text}
use Rattle.text_spec.proofs.Splits.{layout_splits}
use Rattle.dns_text.proofs.zonefile.display_zonefile.Goals as goal

pub returns-clause-splits : goal.returns-clause-splits
returns-clause-splits g c = λ tokens are.
    let value = c.args.value.now in
    let items = g.T.ZonefileFmt.document value in
    let text : c.finish.result ≡ laid_out_text c.args.kind items = c.finish.ensures
    ∙ ap (λ (s : Sheet). s.layout.text) c.in_ok-fmt_zone.ensures.ok
    ∙ ap (λ (s : Sheet). (laid_out s items).layout.text) c.new-f.ensures in
    let law = layout_splits c.args.kind items tokens (g.met.T.ZonefileFmt.is_document value) are in
    (law.0, law.1, text ∙ law.2, law.3)
