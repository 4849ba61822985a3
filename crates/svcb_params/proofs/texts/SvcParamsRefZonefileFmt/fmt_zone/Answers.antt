use Rattle.std.proofs.Common.{◌≡◌, ◌∷◌, rules, arith}
use Rattle.std.proofs.lemmas.Grind.{common_steps}
use Rattle.svcb_spec.specs.Params.{Pairs}
use Rattle.svcb_params.specs.ParamsView.{seen_pair}
use Rattle.svcb_params.proofs.RawPairs.{first_raw}
use Rattle.svcb_params.proofs.Documents.{next_laid, stops_here}
use Rattle.svcb_params.proofs.texts.SvcParamsRefZonefileFmt.fmt_zone.Goals as goal

pub loop-pair-preserved : goal.loop-pair-preserved
loop-pair-preserved c =
    let left : Pairs = c.loop-pair.pair-iterator in
    let steps : left ≡ seen_pair c.in-Some.pair ∷ c.next.new.self =
    first_raw _ _ _ c.in-Some.ensures.steps in
    let lays = rw steps at c.loop-pair.invariant.lays in
    first_of (search rules, search (rules, next_laid), grind (arith, common_steps))

pub returns-in_err-write_display : goal.returns-in_err-write_display
returns-in_err-write_display c =
    let left : Pairs = c.loop-pair.pair-iterator in
    let steps : left ≡ seen_pair c.in-Some.pair ∷ c.next.new.self =
    first_raw _ _ _ c.in-Some.ensures.steps in
    let lays = rw steps at c.loop-pair.invariant.lays in
    first_of (search rules, search (rules, stops_here), grind (arith, common_steps))
