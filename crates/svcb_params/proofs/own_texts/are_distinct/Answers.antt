use Rattle.std.proofs.Common.{◌≡◌, false, ap, ◌∙◌, arith}
use Rattle.std.proofs.lemmas.Bool.Decides.{nat_tests}
use Rattle.svcb_spec.specs.ReadingValues.{numbers}
use Rattle.svcb_params.specs.NumberSets.{has_number}
use Rattle.svcb_params.proofs.Distinct.{distinct_from, met_now}
use Rattle.svcb_params.proofs.own_texts.are_distinct.Goals as goal

pub loop-group-preserved : goal.loop-group-preserved
loop-group-preserved c =
    let words = c.loop-group.met.words in
    let group = c.in-Some.group in
    let new : has_number words group ≡ false =
    grind (arith, nat_tests, c.insert.ensures.added, c.if-not-insert.false) in
    c.loop-group.invariant
    ∙ ap (distinct_from words) c.in-Some.ensures.steps
    ∙ met_now words c.insert.new.self.words group c.insert.ensures.numbers
    (numbers c.next.new.self) new
