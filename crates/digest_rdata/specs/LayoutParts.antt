-- The items of a record's data, without their block.
use Rattle.std.specs.Prelude.{List, [], ◌∷◌, ◌++◌}
use Rattle.text_spec.specs.Layouts.{Item, Token}
use Rattle.record_spec.specs.Rows.{Row, Data}
use Rattle.record_spec.specs.Documents.{numbers_items, last_field_text}

abbrev pub data_items : Row → Data → List Item
data_items row found =
    numbers_items row.fields found.numbers ++ Token (last_field_text row.encoding found.last) ∷ []
