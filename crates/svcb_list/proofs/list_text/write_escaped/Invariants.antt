use Rattle.std.proofs.Common.{length}
use Rattle.std.specs.Fmt.{IsPlainFormatter}
use Rattle.name_spec.specs.Printed.{printed_octets}
use Rattle.svcb_spec.specs.ListTexts.{escaped_item}
use Rattle.svcb_list.proofs.ListTexts.{WritesFront}
use Rattle.svcb_list.proofs.list_text.write_escaped.Given as goal

abbrev pub invariant-loop-first : goal.invariant-loop-first
invariant-loop-first g l =
    IsPlainFormatter l.fn.f
    → WritesFront g.W.Write.write_str_gives l.fn.f l.f (printed_octets (escaped_item l.item))
    (printed_octets (escaped_item l.rest))

abbrev pub decreases-loop-first : goal.decreases-loop-first
decreases-loop-first g l = length l.rest
