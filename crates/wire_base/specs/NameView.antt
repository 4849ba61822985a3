-- A name in a message, as its callers see it.
use Rattle.std.specs.Prelude.{◌≡◌, ℕ, ◌≤◌, Bool, List, [], length, Result, Ok, Err, IsOk}
use Rattle.name_spec.specs.Octets.{Fault}
use Rattle.name_spec.specs.Names.{NameRead, name_at, name_wire, is_pointed}
use Rattle.wire_base.specs.Input.{Input}

-- What callers see of a `ParsedName`, and what a view of data with names has as its field: the
-- labels from the first to the last without the root, each in the case in which it stands in the
-- message; and whether a pointer was followed to read them, so whether the name was compressed on
-- the wire (RFC 1035, section 4.1.4).
pub record NameView : Type 0 where
  pub labels : List (List ℕ)
  pub is_compressed : Bool

-- the name at a parser's place
abbrev pub next_name : Input → Result NameRead Fault
next_name input = name_at input.message input.end input.pos 0 0

-- whether a pointer is followed to read it
abbrev pub is_next_pointed : Input → Bool
is_next_pointed input = is_pointed input.message input.end input.pos

-- the labels of a name that was read
abbrev pub labels_of : Result NameRead Fault → List (List ℕ)
labels_of (Ok name) = name.labels
labels_of (Err fault) = []

-- a name can be read at a place, behind labels of so many octets and so many pointers
pub record IsPlace (message : List ℕ) (end pos octets pointers : ℕ) : Type 0 where
  pub in_message : end ≤ length message
  pub octets_fit : octets ≤ 254
  pub pointers_fit : pointers ≤ 255
  pub read : IsOk (name_at message end pos octets pointers)

-- a name can be read at a place, and has so many octets uncompressed
pub record IsName (message : List ℕ) (end start len : ℕ) : Type 0 where
  pub place : IsPlace message end start 0 0
  pub len_is : len ≡ length (name_wire (labels_of (name_at message end start 0 0)))
  pub fits : len ≤ 255
