-- The items of a list in turn, as calls answer them.
use Rattle.std.specs.Prelude.{ℕ, List, [], ◌∷◌, Option, Some, None, Result, Ok, Err, option_map}
use Rattle.std.specs.Borrow.{Bor}
use Rattle.text_spec.specs.declared.errors.ScanError.{ScanError}
use Rattle.svcb_spec.specs.ListTexts.{◌>>=◌, comma_pieces, plain_item, ItemRead, read_item, some_octets}

-- a value, where there is no fault
abbrev pub some_value : {A : Type 0} → Result A ScanError → Result (Option A) ScanError
some_value read = read >>= λ value. Ok (Some value)

-- what a test answers that is to let something through
abbrev pub let_through : {A : Type 0} → A → Result (Unit {0}) ScanError → Result A ScanError
let_through x answer = answer >>= λ _. Ok x

-- ---- what is left of a list

-- the text that is to be read of a list: no octets have no items
abbrev pub text_of_list : List ℕ → Option (List ℕ)
text_of_list [] = None
text_of_list (c ∷ text) = Some (c ∷ text)

-- the items in the text that is left, between its commas
abbrev pub items_left : Option (List ℕ) → List (List ℕ)
items_left None = []
items_left (Some text) = comma_pieces text

-- ---- items in which nothing is escaped

-- the first of the items that are left; nothing where there is none
abbrev pub next_plain : List (List ℕ) → Result (Option (List ℕ)) ScanError
next_plain [] = Ok None
next_plain (item ∷ items) = some_value (plain_item item)

-- the items behind it
abbrev pub other_items : List (List ℕ) → List (List ℕ)
other_items [] = []
other_items (item ∷ items) = items

-- an answer for it, as contracts see it
abbrev pub seen_item : Result (Option (Bor (List ℕ))) ScanError → Result (Option (List ℕ)) ScanError
seen_item answer = answer >>= λ item. Ok (option_map (λ text. text.now) item)

-- ---- items that may have escapes

-- an item and what follows it, as contracts see them
abbrev pub seen_read : List ℕ × Option (Bor (List ℕ)) → ItemRead
seen_read found = record { item = found.0; rest = option_map (λ text. text.now) found.1 }

-- the item that a text begins with, which has at least one octet; nothing where no text is left
abbrev pub next_read : Option (List ℕ) → Result (Option ItemRead) ScanError
next_read None = Ok None
next_read (Some text) = some_value (read_item text >>= some_octets)

-- its octets, without its escapes
abbrev pub item_read : Result (Option ItemRead) ScanError → Result (Option (List ℕ)) ScanError
item_read read = read >>= λ found. Ok (option_map (λ item. item.item) found)

-- the text that is left behind it
abbrev pub text_behind : Result (Option ItemRead) ScanError → Option (List ℕ)
text_behind (Ok None) = None
text_behind (Ok (Some found)) = found.rest
text_behind (Err fault) = None
