use Rattle.std.proofs.Common.{◌≡◌, List, ℕ, ◌∷◌, ◌++◌, refl, sym, ap, ◌∙◌, append_assoc}
use Rattle.std.proofs.Output.{has_written_append}
use Rattle.name_spec.specs.Printed.{printed_label}
use Rattle.wire_base.proofs.PrintedTexts.{dots_and_labels, first_then_others}
use Rattle.wire_base.proofs.name_texts.write_labels.Goals as goal

pub loop-label-init : goal.loop-label-init
loop-label-init g c = λ plain.
    let first = c.in-Some.first.now in
    let others = c.into_iter-label-iterator.result in
    let name_is : c.args.labels ≡ first ∷ others =
    cc (
      c.in-Some.ensures.steps,
      c.into_iter-label-iterator.ensures.into_iter_gives,
    ) in
    record {
      text = printed_label first;
      wrote = c.in_ok-write.ensures.writes plain refl;
      whole_is = first_then_others c.args.labels others first name_is;
    }

pub loop-label-preserved : goal.loop-label-preserved
loop-label-preserved g c = λ plain.
    let front = c.loop-label.invariant plain in
    let label = c.in-Some-label.label.now in
    record {
      text = front.text ++ (46 ∷ printed_label label);
      wrote = has_written_append _ _ _ _ _ _ front.wrote
          (c.in_ok-write-2.ensures.writes front.wrote.plain refl);
      whole_is =
          append_assoc front.text (46 ∷ printed_label label)
          (dots_and_labels c.next-in-loop-label.new.self)
          ∙ ap (λ (t : List ℕ). front.text ++ t)
          (sym (ap dots_and_labels c.in-Some-label.ensures.steps))
          ∙ front.whole_is;
    }
