use Rattle.std.proofs.Common.{rules, [], ◌∷◌, sym}
use Rattle.std.proofs.lemmas.Result.{on_ok_weaker}
use Rattle.text_spec.specs.Layouts.{Token}
use Rattle.dns_text.proofs.Nesting.{shows, shows_behind, shows_stopped}
use Rattle.record_spec.specs.Documents.{numbers_items, last_field_text}
use Rattle.digest_rdata.proofs.Parts.{same_blocks}
use Rattle.digest_rdata.proofs.association_data.AssociationData.lay_out.Goals as goal

pub returns-in_err-lay_out-clause-shows : goal.returns-in_err-lay_out-clause-shows
returns-in_err-lay_out-clause-shows g c =
    let F = g.F.AssociationFields in
    let numbers = numbers_items F.definition.fields (F.numbers c.self.inside.fields) in
    rw (sym c.self.view_is)
    (shows_stopped c.args.f.now numbers
    (Token (last_field_text F.definition.encoding c.self.inside.last) ∷ []) c.lay_out.new.f _ _
    (search rules) c.in_err-lay_out.ensures)

pub returns-clause-shows : goal.returns-clause-shows
returns-clause-shows g c =
    let F = g.F.AssociationFields in
    let numbers = numbers_items F.definition.fields (F.numbers c.self.inside.fields) in
    let last = Token (last_field_text F.definition.encoding c.self.inside.last) ∷ [] in
    let told = rw (← c.self.view_is) at c.lay_out_last.ensures in
    let written = shows c.lay_out.new.f last c.lay_out_last.new.f c.lay_out_last.result told in
    let both = shows_behind c.args.f.now numbers last c.lay_out.new.f c.lay_out_last.new.f
    c.lay_out_last.result c.in_ok-lay_out.ensures.ok written in
    rw (sym c.self.view_is) both

pub returns-clause-blocks : goal.returns-clause-blocks
returns-clause-blocks g c =
    let F = g.F.AssociationFields in
    on_ok_weaker c.lay_out_last.result
    (λ written. same_blocks F.definition.fields (F.numbers c.self.inside.fields)
    (last_field_text F.definition.encoding c.args.self.now.last) c.args.f.now c.lay_out.new.f
    c.lay_out_last.new.f c.in_ok-lay_out.ensures.ok written)
    c.lay_out_last.ensures.ok
