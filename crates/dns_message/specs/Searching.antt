-- The records of an owner and a type among those of a section.
use Rattle.std.specs.Prelude.{ℕ, ◌==◌, ◌&&◌, Bool, true, List, Result, Ok, Err}
use Rattle.std.specs.List.{filter}
use Rattle.name_spec.specs.Octets.{Fault}
use Rattle.name_spec.specs.OwnedNames.{is_same_name}
use Rattle.wire_base.specs.declared.errors.ParseError.{ParseError}
use Rattle.dns_message.specs.Entries.{MessageRecord, Section, next_record, section_entries}

-- a record of an owner, ASCII case ignored, and of a type
abbrev pub is_of : List (List ℕ) → ℕ → MessageRecord → Bool
is_of owner rtype found = found.rtype == rtype && is_same_name found.owner.labels owner

-- an item of a section that a search gives: such a record, and a fault
abbrev pub is_wanted : List (List ℕ) → ℕ → Result MessageRecord ParseError → Bool
is_wanted owner rtype (Ok found) = is_of owner rtype found
is_wanted owner rtype (Err error) = true

-- what a search gives of the items of a section, in order
abbrev pub records_of : List (List ℕ) → ℕ → List (Result MessageRecord ParseError)
    → List (Result MessageRecord ParseError)
records_of owner rtype = filter (is_wanted owner rtype)

-- what is looked for in a section
pub record Search : Type 0 where
  pub owner : List (List ℕ)
  pub rtype : ℕ
  pub section : Section

-- what a search gives
abbrev pub found_records : Search → List (Result MessageRecord ParseError)
found_records search =
    records_of search.owner search.rtype (section_entries next_record search.section)

-- a search in a section that was reached
abbrev pub search_in : List (List ℕ) → ℕ → Result Section Fault → Result Search Fault
search_in owner rtype (Ok section) =
    Ok (record { owner = owner; rtype = rtype; section = section })
search_in owner rtype (Err fault) = Err fault
