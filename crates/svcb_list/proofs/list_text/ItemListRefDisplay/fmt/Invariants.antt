use Rattle.std.proofs.Common.{map}
use Rattle.std.specs.Fmt.{IsPlainFormatter}
use Rattle.svcb_spec.specs.PrintedValues.{value_printed}
use Rattle.svcb_list.proofs.ListTexts.{WritesFront, commas_and}
use Rattle.svcb_list.proofs.list_text.ItemListRefDisplay.fmt.Given as goal

abbrev pub invariant-loop-item : goal.invariant-loop-item
invariant-loop-item g l =
    IsPlainFormatter l.fn.f
    → WritesFront g.W.Write.write_str_gives l.fn.f l.f
    (value_printed (g.T.ListType.value l.self.slice.now))
    (commas_and (map g.T.ListItems.text (g.T.ListItems.items l.item-iterator)))
