use Rattle.std.proofs.Output.{has_written_of_eq}
use Rattle.svcb_value.proofs.PrintedTexts.{utf8_text, other_text}
use Rattle.svcb_value.proofs.doh_path.DohPathTypeOpaqueType.write_text.Goals as goal

pub returns-in-Ok : goal.returns-in-Ok
returns-in-Ok g c = λ plain ok.
    let cases = c.in-Ok.ensures.cases in
    has_written_of_eq _ _ _ _ _ (utf8_text c.args.octets.now c.in-Ok.template.now cases.0 cases.1)
    (c.write.ensures.writes plain ok)

pub returns-in-Err : goal.returns-in-Err
returns-in-Err g c = λ plain ok.
    has_written_of_eq _ _ _ _ _
    (other_text c.args.octets.now c.new.result.octets.now c.new.ensures
    c.in-Err.ensures.cases.0) (c.write-in-Err.ensures.writes plain ok)
