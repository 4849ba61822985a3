use Rattle.std.specs.Fmt.{IsPlainFormatter}
use Rattle.name_spec.specs.Printed.{printed_name}
use Rattle.wire_base.proofs.PrintedTexts.{WritesFront, dots_and_labels}
use Rattle.wire_base.proofs.name_texts.write_labels.Given as goal

abbrev pub invariant-loop-label : goal.invariant-loop-label
invariant-loop-label g l =
    IsPlainFormatter l.fn.f
    → WritesFront g.W.Write.write_str_gives l.fn.f l.f (printed_name l.fn.labels)
    (dots_and_labels l.label-iterator)
