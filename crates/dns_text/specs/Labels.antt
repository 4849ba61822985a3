-- The labels of a name's text, one after the other.
use Rattle.std.specs.Prelude.{ℕ, ◌+◌, List, [], ◌∷◌, length, Result, option_map, if◌then◌else◌}
use Rattle.std.specs.List.{flat_map}
use Rattle.std.specs.Option.{ok_or}
use Rattle.name_spec.specs.Names.{name_wire}
use Rattle.text_spec.specs.declared.errors.ScanError.{ScanError}
use Rattle.text_spec.specs.declared.errors.ScanError.TheVariants.{BadName}
use Rattle.text_spec.specs.declared.lexeme.Symbol.{Symbol}
use Rattle.text_spec.specs.NameTexts.{is_bare_octet, dotted_parts, without_final_dot, if_labels}

-- how many symbols stand before the first dot that isn't escaped
abbrev pub label_len : List Symbol → ℕ
label_len [] = 0
label_len (symbol ∷ symbols) = if is_bare_octet 46 symbol then 0 else label_len symbols + 1

-- the parts that symbols spell, where there are symbols
abbrev pub spelled_labels : List Symbol → List (List ℕ)
spelled_labels [] = []
spelled_labels (symbol ∷ symbols) = without_final_dot (dotted_parts (symbol ∷ symbols))

-- labels, each behind its length
abbrev pub lengths_and_labels : List (List ℕ) → List ℕ
lengths_and_labels labels = flat_map (λ label. length label ∷ label) labels

-- the octets of the name whose labels symbols spell
abbrev pub wire_of : List Symbol → Result (List ℕ) ScanError
wire_of symbols = ok_or (option_map name_wire (if_labels (spelled_labels symbols))) BadName
