use Rattle.std.proofs.Common.{length, sym, ap, ◌∙◌, arith}
use Rattle.input_lines.proofs.SpellingLemmas.{behind-next}
use Rattle.commands.specs.ZoneLines.{record_line}
use Rattle.commands.proofs.zonemd.record_lines.Goals as goal

pub loop-line-preserved : goal.loop-line-preserved
loop-line-preserved c =
    let steps = c.in-Some.ensures.steps in
    record {
      number = omega (arith, ap length steps, c.loop-line.invariant.number);
      found = c.loop-line.invariant.found
          ∙ behind-next record_line c.loop-line.records.items _ c.in-Some-2.found c.loop-line.number
          c.in-Some.line.now _ _ steps (sym c.in-Some-2.is ∙ c.in_ok-found.ensures)
          c.in_ok-push-in-Some-2.ensures.items;
    }
