-- The aliases among the answer records of a message: CNAME records (RFC 1035, section 3.3.1).
use Rattle.std.specs.Prelude.{◌≡◌, ℕ, zero, suc, ◌+◌, ◌==◌, ◌&&◌, Bool, List, [], ◌∷◌, Option, Some, None, Result, Ok, Err, if◌then◌else◌}
use Rattle.name_spec.specs.Octets.{Fault, Form, ◌>>=◌}
use Rattle.name_spec.specs.Names.{NameRead}
use Rattle.wire_base.specs.Faults.{error_of}
use Rattle.wire_base.specs.Input.{Input}
use Rattle.wire_base.specs.NameView.{NameView, next_name}
use Rattle.wire_base.specs.declared.errors.ParseError.{ParseError}
use Rattle.dns_message.specs.Entries.{MessageRecord, Section, next_record, section_entries, seen_name}
use Rattle.dns_message.specs.Headers.{header_of}
use Rattle.dns_message.specs.Messages.{answers_start, section_behind}
use Rattle.dns_message.specs.Searching.{is_of}
use Rattle.dns_message.specs.declared.errors.AliasError.{AliasError}
use Rattle.dns_message.specs.declared.errors.AliasError.TheVariants as errors

-- ---- one alias

-- an alias of a name: its record of type 5, CNAME, in class 1, the internet
abbrev pub is_alias : List (List ℕ) → MessageRecord → Bool
is_alias owner found = found.class == 1 && is_of owner 5 found

-- a name that ends where the data does; octets behind it are a fault
abbrev pub name_to_end : Input → NameRead → Result NameView Fault
name_to_end input name = if name.next == input.end then Ok (seen_name input name) else Err Form

-- the name that the data of a record wholly is, or its fault
abbrev pub name_of_data : MessageRecord → Result NameView Fault
name_of_data found = next_name found.rdata >>= name_to_end found.rdata

-- what an alias leads to: the name that was read in it, or its fault
abbrev pub led_to : Result NameView Fault → Result (Option NameView) AliasError
led_to (Ok target) = Ok (Some target)
led_to (Err fault) = Err (errors.Parse (error_of fault))

-- what the first alias of a name leads to, among the items of a section, if there is one; or the
-- fault in front of it
abbrev pub first_alias : List (List ℕ) → List (Result MessageRecord ParseError)
    → Result (Option NameView) AliasError
first_alias owner [] = Ok None
first_alias owner (Ok found ∷ items) =
    if is_alias owner found then led_to (name_of_data found) else first_alias owner items
first_alias owner (Err error ∷ items) = Err (errors.Parse error)

-- the same in a section, where its place was reached
abbrev pub alias_in : List (List ℕ) → Result Section Fault → Result (Option NameView) AliasError
alias_in owner (Ok section) = first_alias owner (section_entries next_record section)
alias_in owner (Err fault) = Err (errors.Parse (error_of fault))

-- what the first alias of a name leads to, among the answer records of a message
abbrev pub alias_of : List ℕ → List (List ℕ) → Result (Option NameView) AliasError
alias_of message owner =
    alias_in owner (section_behind (answers_start message) (header_of message).ancount)

-- ---- one alias behind another

-- the labels of the last target, or of the owner where no alias was followed
abbrev pub labels_reached : List (List ℕ) → Option NameView → List (List ℕ)
labels_reached owner None = owner
labels_reached owner (Some target) = target.labels

-- where no alias is left, the last target is the answer; `again target` goes on behind one
abbrev pub goes_on : Option NameView → (NameView → Result (Option NameView) AliasError)
    → Result (Option NameView) AliasError → Result (Option NameView) AliasError
goes_on reached again (Ok None) = Ok reached
goes_on reached again (Ok (Some target)) = again target
goes_on reached again (Err error) = Err error

-- the last target of an owner's aliases behind the one that was reached, by at most so many looks
-- for an alias
unfoldable pub last_target : ℕ → List ℕ → List (List ℕ) → Option NameView
    → Result (Option NameView) AliasError
last_target zero message owner reached = Err errors.Loop
last_target (suc looks) message owner reached =
    goes_on reached (λ target. last_target looks message owner (Some target))
    (alias_of message (labels_reached owner reached))

-- The last target of an owner's aliases, none where the owner has none. Aliases that don't lead in a
-- loop are at most as many as there are answer records, behind which one look more finds none.
abbrev pub canonical_name : List ℕ → List (List ℕ) → Result (Option NameView) AliasError
canonical_name message owner = last_target ((header_of message).ancount + 1) message owner None

-- each target is what the first alias of the one before it leads to, without an end: the aliases
-- lead in a loop
pub record LeadOn (message : List ℕ) (owner : List (List ℕ)) (targets : ℕ → NameView) : Type 0 where
  pub first : alias_of message owner ≡ Ok (Some (targets 0))
  pub others : (n : ℕ) → alias_of message (targets n).labels ≡ Ok (Some (targets (n + 1)))
