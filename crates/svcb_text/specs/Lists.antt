-- Lists that are made item by item.
use Rattle.std.specs.Prelude.{ℕ, ◌^◌, List, [], ◌∷◌, ◌++◌, Option, Result, Ok}
use Rattle.std.specs.Option.{ok_or}
use Rattle.registry.specs.Keys.{parameter_keys}
use Rattle.registry.specs.Texts.{spelled_key, spelled_number}
use Rattle.text_spec.specs.declared.errors.ScanError.{ScanError}
use Rattle.text_spec.specs.declared.errors.ScanError.TheVariants.{UnknownKey, BadNumber, BadAddress}
use Rattle.svcb_spec.specs.ListTexts.{◌>>=◌, comma_items, plain_item}
use Rattle.svcb_spec.specs.ValueTexts.{some_text, new_item, other_key, insert_ascending}

-- items that are added in turn to what was made before; nothing may be escaped in them
abbrev pub add_items : {A : Type 0} → (A → List ℕ → Result A ScanError) → A → List (List ℕ)
    → Result A ScanError
add_items add made [] = Ok made
add_items add made (item ∷ items) =
    plain_item item >>= λ text. add made text >>= λ more. add_items add more items

-- the same of the items of a text, which is to have octets
abbrev pub read_list : {A : Type 0} → (A → List ℕ → Result A ScanError) → A → List ℕ
    → Result A ScanError
read_list add made text = some_text text >>= λ list. add_items add made (comma_items list)

-- what a text is behind what was read before, added at the end
abbrev pub add_last : {A : Type 0} → (List A → List ℕ → Result A ScanError) → List A → List ℕ
    → Result (List A) ScanError
add_last read before text = read before text >>= λ x. Ok (before ++ x ∷ [])

-- the address that a text spells
abbrev pub read_address : (List ℕ → Option (List ℕ)) → List (List ℕ) → List ℕ
    → Result (List ℕ) ScanError
read_address address before text = ok_or (address text) BadAddress

-- the number of a group that a text spells, which is to be new
abbrev pub read_group : List ℕ → List ℕ → Result ℕ ScanError
read_group before text = ok_or (spelled_number (2 ^ 16) text) BadNumber >>= new_item before

-- the key that a text spells, which is to be new and not `mandatory`
abbrev pub read_key : List ℕ → List ℕ → Result ℕ ScanError
read_key before text =
    ok_or (spelled_key parameter_keys text) UnknownKey >>= λ key. other_key key >>= new_item before

-- that key at its place among ascending keys
abbrev pub add_key : List ℕ → List ℕ → Result (List ℕ) ScanError
add_key before text = read_key before text >>= λ key. Ok (insert_ascending key before)
