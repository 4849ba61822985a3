-- The first protocol and the others so far were written, those with a comma before each.
use Rattle.std.proofs.Common.{drop, map}
use Rattle.std.specs.Fmt.{IsPlainFormatter}
use Rattle.commands.specs.ChooseReport.{protocols_text}
use Rattle.commands.proofs.ProtocolTexts.{WritesFront, commas_and, text_of}
use Rattle.commands.proofs.choose_report.ProtocolsTextDisplay.fmt.Given as goal

abbrev pub invariant-loop-protocol : goal.invariant-loop-protocol
invariant-loop-protocol g l =
    IsPlainFormatter l.fn.f
    → WritesFront g.W.Write.write_str_gives l.fn.f l.f (protocols_text l.self.0.now)
    (commas_and (map text_of (drop l.protocol-index l.others)))
