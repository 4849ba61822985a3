-- The input that the program keeps, as its definition sees it.
use Rattle.std.specs.Prelude.{map}
use Rattle.svcb_text.specs.AllValues.{value_of}
use Rattle.edit_program.specs.EditInput.{Spelled}
use Rattle.edit_program.specs.declared.edit_input.EditInput.{EditInput}

abbrev pub edit_input_view : EditInput → Spelled
edit_input_view s = record {
  message = s.message;
  start = s.bounds.start;
  len = s.bounds.len;
  limit = s.bounds.limit;
  pushes = map value_of s.pushes.items;
}
