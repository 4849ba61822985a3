-- The documents of the data of these records.
use Rattle.std.specs.Prelude.{ℕ, Option, Some, None, List, [], ◌∷◌, ◌++◌}
use Rattle.std.specs.Fmt.{decimal}
use Rattle.text_spec.specs.Encodings.{base16_text, base64_text}
use Rattle.text_spec.specs.Layouts.{Item, Token, Comment, BlockBegin, BlockEnd}
use Rattle.record_spec.specs.declared.Encoding.{Encoding}
use Rattle.record_spec.specs.declared.Encoding.TheVariants.{Base16, Base64}
use Rattle.record_spec.specs.Rows.{Field, Row, Data}

-- a number and the comment behind it, if there is one
abbrev pub number_with_comment : ℕ → Option (List ℕ) → List Item
number_with_comment n None = Token (decimal n) ∷ []
number_with_comment n (Some comment) = Token (decimal n) ∷ Comment comment ∷ []

-- the numbers of fixed fields
abbrev pub numbers_items : List Field → List ℕ → List Item
numbers_items [] numbers = []
numbers_items (field ∷ fields) [] = []
numbers_items (field ∷ fields) (n ∷ numbers) =
    number_with_comment n (field.comment n) ++ numbers_items fields numbers

-- the text of the last field; base16 is in upper case
abbrev pub last_field_text : Encoding → List ℕ → List ℕ
last_field_text Base16 octets = base16_text octets
last_field_text Base64 octets = base64_text octets

-- a block of the numbers and the last field
abbrev pub data_document : Row → Data → List Item
data_document row found =
    BlockBegin ∷
    (numbers_items row.fields found.numbers ++ Token (last_field_text row.encoding found.last)
    ∷ []) ++ BlockEnd ∷ []
