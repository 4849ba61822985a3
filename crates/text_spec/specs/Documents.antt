-- The documents of numbers, names and data.
use Rattle.std.specs.Prelude.{ℕ, ◌==◌, if◌then◌else◌, List, [], ◌∷◌, ◌++◌, length, Option, Some, None, codes}
use Rattle.std.specs.Fmt.{decimal}
use Rattle.text_spec.specs.Encodings.{base16_text}
use Rattle.text_spec.specs.Layouts.{Item, Token, Comment}

-- a comment's text: what it calls the number, and its mnemonic, where there is one
abbrev pub number_comment : List ℕ → Option (List ℕ) → List ℕ
number_comment name None = name
number_comment name (Some mnemonic) = name ++ codes ": " ++ mnemonic

-- a number of a registry: its text, and a comment where comments name it
abbrev pub number_items : List ℕ → List ℕ → Option (List ℕ) → List Item
number_items text comment_name mnemonic =
    if length comment_name == 0 then Token text ∷ []
    else Token text ∷ Comment (number_comment comment_name mnemonic) ∷ []

-- data of any type: the marker, the count of octets, and the octets in base16
abbrev pub unknown_items : List ℕ → List Item
unknown_items octets =
    Token (codes "\\#") ∷ Token (decimal (length octets)) ∷ Token (base16_text octets) ∷ []
