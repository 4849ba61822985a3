use Rattle.std.proofs.Common.{◌∙◌}
use Rattle.svcb_spec.specs.ReadingValues.{take_value, whole_taken}
use Rattle.svcb_text.proofs.WholeValueLemmas.{some_value, no_value, refused}
use Rattle.svcb_text.proofs.all_values_ref.AllValuesRef.parse_any.Goals as goal

pub returns-in-Ok-Some : goal.returns-in-Ok-Some
returns-in-Ok-Some c =
    let key = c.args.key in
    let octets = c.args.slice.now in
    some_value key octets _ (whole_taken octets (take_value key octets))
    (rw c.in-Ok-Some.field-0-is at c.in-Ok-Some.ensures)

pub returns-in-Ok-None : goal.returns-in-Ok-None
returns-in-Ok-None c =
    let key = c.args.key in
    let octets = c.args.slice.now in
    (rw c.unwrap-unknown.ensures at c.new.ensures.view)
    ∙ no_value key octets (whole_taken octets (take_value key octets))
    (rw c.in-Ok-None.field-0-is at c.in-Ok-None.ensures)

pub returns-in-Err : goal.returns-in-Err
returns-in-Err c =
    let key = c.args.key in
    let octets = c.args.slice.now in
    (rw c.unwrap-unknown.ensures at c.new.ensures.view)
    ∙ refused key octets _ (whole_taken octets (take_value key octets)) c.in-Err.ensures
