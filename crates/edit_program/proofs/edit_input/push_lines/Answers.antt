use Rattle.std.proofs.Common.{length, sym, ap, ◌∙◌, arith}
use Rattle.std.specs.Option.{option_map}
use Rattle.svcb_text.specs.AllValues.{value_of}
use Rattle.input_lines.proofs.SpellingLemmas.{behind-pushed}
use Rattle.edit_program.specs.Pushes.{push_of}
use Rattle.edit_program.proofs.edit_input.push_lines.Goals as goal

pub loop-line-preserved : goal.loop-line-preserved
loop-line-preserved c =
    let line = c.in-Some.line.now in
    let steps = c.in-Some.ensures.steps in
    record {
      number = omega (arith, ap length steps, c.loop-line.invariant.number);
      pushes = c.loop-line.invariant.pushes
          ∙ behind-pushed push_of value_of c.loop-line.pushes.items _ c.in-Some-2.push c.loop-line.number
          line _ _ steps (ap (option_map value_of) (sym c.in-Some-2.is) ∙ c.in_ok-push.ensures)
          c.in_ok-push-in-Some-2.ensures.items;
    }
