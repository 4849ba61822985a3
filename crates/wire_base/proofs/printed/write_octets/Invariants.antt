use Rattle.std.proofs.Common.{length}
use Rattle.std.specs.List.{flat_map}
use Rattle.std.specs.Fmt.{IsPlainFormatter}
use Rattle.name_spec.specs.Printed.{printed_octet}
use Rattle.wire_base.specs.PrintedIn.{specials}
use Rattle.wire_base.proofs.PrintedTexts.{WritesFront}
use Rattle.wire_base.proofs.printed.write_octets.Given as goal

abbrev pub invariant-loop-first : goal.invariant-loop-first
invariant-loop-first g l =
    IsPlainFormatter l.fn.f
    → WritesFront g.W.Write.write_str_gives l.fn.f l.f
    (flat_map (printed_octet (specials l.in_name)) l.octets)
    (flat_map (printed_octet (specials l.in_name)) l.rest)

abbrev pub decreases-loop-first : goal.decreases-loop-first
decreases-loop-first g l = length l.rest
