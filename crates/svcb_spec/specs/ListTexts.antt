-- Lists in the text of a value (RFC 9460, appendix A.1): items with commas between them.
use Rattle.std.specs.Prelude.{ℕ, suc, ◌==◌, Bool, ◌||◌, if◌then◌else◌, List, [], ◌∷◌, ◌++◌, length, Option, Some, None, Result, Ok, Err}
use Rattle.std.specs.List.{list_any, flat_map}
use Rattle.text_spec.specs.declared.errors.ScanError.{ScanError}
use Rattle.text_spec.specs.declared.errors.ScanError.TheVariants.{BadListEscape, EmptyItem}

-- the next step of a reading, unless there is a fault
infixl 10 ◌>>=◌
abbrev pub ◌>>=◌ : {A B : Type 0} → Result A ScanError → (A → Result B ScanError)
    → Result B ScanError
(Ok x) >>= f = f x
(Err fault) >>= f = Err fault

-- ---- the pieces of a list

-- an octet in front of the first piece
abbrev pub onto_piece : ℕ → List (List ℕ) → List (List ℕ)
onto_piece octet [] = (octet ∷ []) ∷ []
onto_piece octet (piece ∷ pieces) = (octet ∷ piece) ∷ pieces

-- the pieces between commas; there is always one
abbrev pub comma_pieces : List ℕ → List (List ℕ)
comma_pieces [] = [] ∷ []
comma_pieces (c ∷ text) =
    if c == 44 then [] ∷ comma_pieces text else onto_piece c (comma_pieces text)

-- the items of a list: no octets have none
abbrev pub comma_items : List ℕ → List (List ℕ)
comma_items [] = []
comma_items (c ∷ text) = comma_pieces (c ∷ text)

-- an item in which nothing may be escaped
abbrev pub plain_item : List ℕ → Result (List ℕ) ScanError
plain_item item =
    if list_any (λ c. c == 92) item then Err BadListEscape
    else if length item == 0 then Err EmptyItem
    else Ok item

-- ---- escaped items

-- a comma or a backslash, which stand behind a backslash in an item
abbrev pub is_escaped_in_item : ℕ → Bool
is_escaped_in_item c = (c == 44) || (c == 92)

-- an item as it stands in a list
abbrev pub escaped_item : List ℕ → List ℕ
escaped_item item = flat_map (λ c. if is_escaped_in_item c then 92 ∷ c ∷ [] else c ∷ []) item

-- what an item's text is: the item without its escapes, and what follows the comma behind it, where
-- there is one
pub record ItemRead : Type 0 where
  pub item : List ℕ
  pub rest : Option (List ℕ)

-- an octet in front of the item
abbrev pub onto_item : ℕ → Result ItemRead ScanError → Result ItemRead ScanError
onto_item octet (Ok read) = Ok (record { item = octet ∷ read.item; rest = read.rest })
onto_item octet (Err fault) = Err fault

-- The item text runs to the first comma that isn't the second octet of an escape, or to the end. A
-- backslash that is followed by neither a comma nor a backslash is no escape.
abbrev pub read_item : List ℕ → Result ItemRead ScanError
read_item [] = Ok (record { item = []; rest = None })
read_item (c ∷ []) =
    if c == 44 then Ok (record { item = []; rest = Some [] })
    else if c == 92 then Err BadListEscape
    else Ok (record { item = c ∷ []; rest = None })
read_item (c ∷ next ∷ text) =
    if c == 44 then Ok (record { item = []; rest = Some (next ∷ text) })
    else if c == 92
    then (if is_escaped_in_item next then onto_item next (read_item text)
    else Err BadListEscape)
    else onto_item c (read_item (next ∷ text))

-- how much is left of a list's text: one for the item that follows, and its octets
abbrev pub left_len : Option (List ℕ) → ℕ
left_len None = 0
left_len (Some text) = suc (length text)

-- an item has at least one octet
abbrev pub some_octets : ItemRead → Result ItemRead ScanError
some_octets read = if length read.item == 0 then Err EmptyItem else Ok read

-- ---- items in turn

-- Each item is read by a rule that knows the items before it. The first fault decides.
abbrev pub read_items : {A : Type 0} → (List A → List ℕ → Result A ScanError) → List A
    → List (List ℕ) → Result (List A) ScanError
read_items rule before [] = Ok before
read_items rule before (item ∷ items) =
    rule before item >>= λ x. read_items rule (before ++ x ∷ []) items
