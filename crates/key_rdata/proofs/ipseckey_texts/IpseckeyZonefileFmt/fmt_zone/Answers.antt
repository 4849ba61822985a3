use Rattle.std.proofs.Common.{rules, [], ◌∷◌, ◌∙◌, ap}
use Rattle.text_spec.specs.Layouts.{Sheet, BlockBegin, BlockEnd, laid_out}
use Rattle.text_spec.specs.LayoutLaws.{laid_out-append}
use Rattle.dns_text.proofs.Nesting.{shows, shows_behind, shows_stopped}
use Rattle.key_rdata.specs.LayoutParts.{fields_items}
use Rattle.key_rdata.proofs.ipseckey_texts.IpseckeyZonefileFmt.fmt_zone.Goals as goal

pub returns-in_err-lay_out_fields : goal.returns-in_err-lay_out_fields
returns-in_err-lay_out_fields c =
    shows_behind c.args.f.now (BlockBegin ∷ []) _ c.begin_block.new.self _ _
    c.in_ok-begin_block.ensures.ok
    (shows_stopped _ (fields_items c.args.self.now) (BlockEnd ∷ []) _ _ _
    (search rules) c.in_err-lay_out_fields.ensures.shows)

pub returns : goal.returns
returns c =
    let items = fields_items c.args.self.now in
    let begun = c.in_ok-begin_block.ensures.ok in
    let mid = c.in_ok-lay_out_fields.ensures.shows.ok ∙ ap (λ (s : Sheet). laid_out s items) begun
    ∙ laid_out-append c.args.f.now (BlockBegin ∷ []) items in
    shows_behind c.args.f.now (BlockBegin ∷ items) (BlockEnd ∷ []) c.lay_out_fields.new.f _ _ mid
    (shows _ _ _ _ c.end_block.ensures)
