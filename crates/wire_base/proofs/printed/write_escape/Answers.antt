use Rattle.std.proofs.Common.{sym, ◌∙◌}
use Rattle.std.proofs.Output.{has_written_of_eq}
use Rattle.wire_base.proofs.PrintedTexts.{escaped_text, decimal_text}
use Rattle.wire_base.proofs.printed.write_escape.Goals as goal

pub returns-then-is_special : goal.returns-then-is_special
returns-then-is_special g c = λ plain ok.
    has_written_of_eq _ _ _ _ _
    (escaped_text c.args.in_name c.args.octet (sym c.is_special.ensures ∙ c.if-is_special.true))
    (c.write_ascii.ensures plain ok)

pub returns : goal.returns
returns g c = λ plain ok.
    has_written_of_eq _ _ _ _ _
    (decimal_text c.args.in_name c.args.octet (sym c.is_special.ensures ∙ c.if-is_special.false)
    c.requires) (c.write_ascii-2.ensures plain ok)
