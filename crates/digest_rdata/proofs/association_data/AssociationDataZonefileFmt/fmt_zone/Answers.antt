use Rattle.std.proofs.Common.{rules, [], ◌∷◌, ◌∙◌, ap}
use Rattle.text_spec.specs.Layouts.{Sheet, BlockBegin, BlockEnd, laid_out}
use Rattle.text_spec.specs.LayoutLaws.{laid_out-append}
use Rattle.dns_text.proofs.Nesting.{shows, shows_behind, shows_stopped}
use Rattle.digest_rdata.specs.FieldsView.{data_of}
use Rattle.digest_rdata.specs.LayoutParts.{data_items}
use Rattle.digest_rdata.proofs.association_data.AssociationDataZonefileFmt.fmt_zone.Goals as goal

pub returns-in_err-lay_out : goal.returns-in_err-lay_out
returns-in_err-lay_out g c =
    shows_behind c.args.f.now (BlockBegin ∷ []) _ c.begin_block.new.self _ _
    c.in_ok-begin_block.ensures.ok
    (shows_stopped _ _ _ _ _ _ (search rules) c.in_err-lay_out.ensures.shows)

pub returns : goal.returns
returns g c =
    let F = g.F.AssociationFields in
    let items = data_items F.definition (data_of F.numbers c.args.self.now) in
    let begun = c.in_ok-begin_block.ensures.ok in
    let mid = c.in_ok-lay_out.ensures.shows.ok ∙ ap (λ (s : Sheet). laid_out s items) begun
    ∙ laid_out-append c.args.f.now (BlockBegin ∷ []) items in
    shows_behind c.args.f.now (BlockBegin ∷ items) (BlockEnd ∷ []) c.lay_out.new.f _ _ mid
    (shows _ _ _ _ c.end_block.ensures)
