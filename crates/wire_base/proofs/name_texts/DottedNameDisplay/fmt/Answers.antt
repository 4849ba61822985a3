use Rattle.std.proofs.Common.{sym, ◌∙◌}
use Rattle.std.proofs.Output.{has_written_of_eq}
use Rattle.wire_base.proofs.PrintedTexts.{final_dot}
use Rattle.wire_base.proofs.name_texts.DottedNameDisplay.fmt.Goals as goal

pub returns-else-is_root-clause-writes : goal.returns-else-is_root-clause-writes
returns-else-is_root-clause-writes g c = λ plain ok.
    has_written_of_eq _ _ _ _ _
    (final_dot c.args.self.now.name.now (sym c.is_root.ensures ∙ c.if-is_root.false))
    (c.write-else-is_root.ensures.writes plain ok)
