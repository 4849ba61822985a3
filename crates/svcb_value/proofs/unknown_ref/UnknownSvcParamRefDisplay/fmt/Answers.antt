use Rattle.std.proofs.Common.{sym, ◌∙◌}
use Rattle.std.proofs.Output.{has_written_of_eq}
use Rattle.svcb_value.proofs.PrintedTexts.{opaque_pair}
use Rattle.svcb_value.proofs.unknown_ref.UnknownSvcParamRefDisplay.fmt.Goals as goal

pub returns-else-is_empty-clause-writes : goal.returns-else-is_empty-clause-writes
returns-else-is_empty-clause-writes g c = λ plain ok.
    let view = c.args.self.now in
    has_written_of_eq _ _ _ _ _
    (opaque_pair view.key c.key.result view.slice.now c.new.result.octets.now c.key.ensures.key
    c.new.ensures (sym c.is_empty.ensures ∙ c.if-is_empty.false))
    (c.write-else-is_empty.ensures.writes plain ok)
