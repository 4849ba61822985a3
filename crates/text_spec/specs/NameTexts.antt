-- The text of a name, as one token (RFC 1035, section 5.1). A name is always absolute here.
use Rattle.std.specs.Prelude.{ℕ, ◌+◌, Bool, true, false, ◌&&◌, not, nat_lt, nat_le, ◌==◌, if◌then◌else◌, List, [], ◌∷◌, length, Option, Some, None}
use Rattle.text_spec.specs.declared.lexeme.Symbol.{Symbol}

-- whether a symbol is this octet, not escaped
abbrev pub is_bare_octet : ℕ → Symbol → Bool
is_bare_octet c symbol = not symbol.escaped && (symbol.octet == c)

-- whether a token is this one octet, not escaped
abbrev pub is_lone : ℕ → List Symbol → Bool
is_lone c [] = false
is_lone c (symbol ∷ []) = is_bare_octet c symbol
is_lone c (symbol ∷ next ∷ symbols) = false

-- an octet in front of the first part
abbrev pub onto_first : ℕ → List (List ℕ) → List (List ℕ)
onto_first octet [] = (octet ∷ []) ∷ []
onto_first octet (part ∷ parts) = (octet ∷ part) ∷ parts

-- the parts between dots that aren't escaped
abbrev pub dotted_parts : List Symbol → List (List ℕ)
dotted_parts [] = [] ∷ []
dotted_parts (symbol ∷ symbols) =
    if is_bare_octet 46 symbol then [] ∷ dotted_parts symbols
    else onto_first symbol.octet (dotted_parts symbols)

-- parts without an empty last one behind another, so without what follows a final dot
abbrev pub without_final_dot : List (List ℕ) → List (List ℕ)
without_final_dot [] = []
without_final_dot (part ∷ []) = part ∷ []
without_final_dot (part ∷ [] ∷ []) = part ∷ []
without_final_dot (part ∷ next ∷ parts) = part ∷ without_final_dot (next ∷ parts)

-- whether labels have 1 to 63 octets each, and with their lengths, behind labels of so many octets,
-- at most 254
abbrev pub are_labels : ℕ → List (List ℕ) → Bool
are_labels octets [] = true
are_labels octets (label ∷ labels) =
    nat_lt 0 (length label) && nat_lt (length label) 64 && nat_le (octets + length label + 1) 254
    && are_labels (octets + length label + 1) labels

-- labels that a name may have
abbrev pub if_labels : List (List ℕ) → Option (List (List ℕ))
if_labels labels = if are_labels 0 labels then Some labels else None

-- the labels, without the root, of the name that a token spells; a lone `@` spells none
abbrev pub name_of : List Symbol → Option (List (List ℕ))
name_of token =
    if is_lone 46 token then Some []
    else if is_lone 64 token then None
    else if_labels (without_final_dot (dotted_parts token))
