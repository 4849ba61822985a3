use Rattle.std.proofs.Common.{◌≡◌, ◌∙◌, ◌+◌, [], ◌∷◌, ◌++◌, ap, subst, arith}
use Rattle.std.specs.Prelude.{IsErr}
use Rattle.text_spec.specs.Layouts.{BlockEnd}
use Rattle.svcb_spec.specs.DataDocuments.{params_document}
use Rattle.dns_text.specs.Writing.{Shows}
use Rattle.dns_text.proofs.Nesting.{shows, shows_behind, shows_stopped, same_blocks}
use Rattle.svcb_spec.specs.DataDocumentLaws.{document-params}
use Rattle.svcb_rdata.proofs.DocumentParts.{parts, parts_laid_out}
use Rattle.svcb_rdata.proofs.texts.SvcbRdataZonefileFmt.fmt_zone.Goals as goal

-- src/texts.rt:67:9
pub returns-in_err-write_show : goal.returns-in_err-write_show
returns-in_err-write_show g c =
    let found = c.args.self.now in
    let pairs = c.params.result.now in
    let before = parts_laid_out found c.args.f.now c.begin_block.new.self c.write_decimal.new.self
    c.write_comment.new.self c.write_name.new.self c.write_comment-2.new.self
    c.from.result c.target.result.now (c.from.ensures ∙ c.priority.ensures) c.target.ensures
    c.in_ok-begin_block.ensures.ok c.in_ok-write_decimal.ensures.ok
    c.in_ok-write_comment.ensures.ok c.in_ok-write_name.ensures.ok
    c.in_ok-write_comment-2.ensures.ok in
    let refused : IsErr c.from_residual-in_err-write_show.result = cc in
    subst (λ ps. Shows c.args.f.now (parts found ++ params_document ps ++ BlockEnd ∷ [])
    c.write_show.new.self c.from_residual-in_err-write_show.result) c.params.ensures
    (shows_stopped c.args.f.now (parts found ++ params_document pairs)
    (BlockEnd ∷ []) c.write_show.new.self c.in_err-write_show.field-0.0
    c.from_residual-in_err-write_show.result refused
    (shows_behind c.args.f.now (parts found) (params_document pairs) c.write_comment-2.new.self
    c.write_show.new.self _ before c.in_err-write_show.ensures))

-- src/texts.rt:68:9
pub end_block-requires : goal.end_block-requires
end_block-requires g c =
    let found = c.args.self.now in
    let pairs = c.params.result.now in
    let before = parts_laid_out found c.args.f.now c.begin_block.new.self c.write_decimal.new.self
    c.write_comment.new.self c.write_name.new.self c.write_comment-2.new.self
    c.from.result c.target.result.now (c.from.ensures ∙ c.priority.ensures) c.target.ensures
    c.in_ok-begin_block.ensures.ok c.in_ok-write_decimal.ensures.ok
    c.in_ok-write_comment.ensures.ok c.in_ok-write_name.ensures.ok
    c.in_ok-write_comment-2.ensures.ok in
    let open_blocks : c.write_comment-2.new.self.layout.blocks ≡ c.args.f.now.layout.blocks + 1 =
    ap (λ sheet. sheet.layout.blocks) before in
    let same : c.write_show.new.self.layout.blocks ≡ c.write_comment-2.new.self.layout.blocks =
    same_blocks c.write_comment-2.new.self (params_document pairs) c.write_show.new.self
    (document-params pairs) c.in_ok-write_show.ensures.ok in
    omega (arith, open_blocks, same)

-- src/texts.rt:61:5
pub returns : goal.returns
returns g c =
    let found = c.args.self.now in
    let pairs = c.params.result.now in
    let before = parts_laid_out found c.args.f.now c.begin_block.new.self c.write_decimal.new.self
    c.write_comment.new.self c.write_name.new.self c.write_comment-2.new.self
    c.from.result c.target.result.now (c.from.ensures ∙ c.priority.ensures) c.target.ensures
    c.in_ok-begin_block.ensures.ok c.in_ok-write_decimal.ensures.ok
    c.in_ok-write_comment.ensures.ok c.in_ok-write_name.ensures.ok
    c.in_ok-write_comment-2.ensures.ok in
    let all = (shows_behind c.args.f.now (parts found)
    (params_document pairs) c.write_comment-2.new.self c.write_show.new.self _ before
    c.in_ok-write_show.ensures).ok in
    subst (λ ps. Shows c.args.f.now (parts found ++ params_document ps ++ BlockEnd ∷ [])
    c.end_block.new.self c.end_block.result) c.params.ensures
    (shows_behind c.args.f.now (parts found ++ params_document pairs)
    (BlockEnd ∷ []) c.write_show.new.self c.end_block.new.self c.end_block.result all
    (shows c.write_show.new.self (BlockEnd ∷ []) c.end_block.new.self c.end_block.result
    c.end_block.ensures))
