-- The parts of a name in a message: labels and pointers up to the root.
use Rattle.std.specs.Prelude.{◌≡◌, ℕ, ◌+◌, ◌<◌, ◌≤◌, Bool, true, false, List, [], length, Result, Ok, Err, slice_range}
use Rattle.name_spec.specs.Octets.{Fault}
use Rattle.name_spec.specs.Names.{NameRead, with_label, by_pointer, name_at, name_wire, is_pointed}
use Rattle.wire_base.specs.declared.errors.ParseError.{ParseError}
use Rattle.wire_base.specs.declared.name_parts.Part.{Part}
use Rattle.wire_base.specs.declared.name_parts.Part.TheVariants.{Root, Label, Pointer}
use Rattle.wire_base.specs.declared.name_parts.Span.{Span}
use Rattle.wire_base.specs.Faults.{IsFaultOf}

-- the name at a place that begins with this part
abbrev pub name_from : Part → List ℕ → ℕ → ℕ → ℕ → ℕ → Result NameRead Fault
name_from Root message end pos octets pointers = Ok (record { labels = []; next = pos + 1 })
name_from (Label len) message end pos octets pointers =
    with_label (slice_range message (pos + 1) (pos + 1 + len))
    (name_at message end (pos + 1 + len) (octets + len + 1) pointers)
name_from (Pointer target) message end pos octets pointers =
    by_pointer (pos + 2) (name_at message end target octets (pointers + 1))

-- whether that name follows a pointer
abbrev pub pointed_from : Part → List ℕ → ℕ → ℕ → Bool
pointed_from Root message end pos = false
pointed_from (Label len) message end pos = is_pointed message end (pos + 1 + len)
pointed_from (Pointer target) message end pos = true

-- a label and a pointer lie in the data and within the limits of a name, and a pointer goes back
abbrev pub IsAllowed : Part → ℕ → ℕ → ℕ → ℕ → Type 0
IsAllowed Root end pos octets pointers = pos < end
IsAllowed (Label len) end pos octets pointers =
    (0 < len) × (pos + 1 + len ≤ end) × (octets + len + 1 ≤ 254)
IsAllowed (Pointer target) end pos octets pointers =
    (target < pos) × (pos + 2 ≤ end) × (pointers < 255)

-- a name begins with this part
pub record BeginsName (part : Part) (message : List ℕ) (end pos octets pointers : ℕ) : Type 0 where
  pub allowed : IsAllowed part end pos octets pointers
  pub name : name_at message end pos octets pointers
      ≡ name_from part message end pos octets pointers
  pub pointed : is_pointed message end pos ≡ pointed_from part message end pos

-- the answer is the part that stands at a place, or the fault
abbrev pub IsPartAt : List ℕ → ℕ → ℕ → ℕ → ℕ → Result Part ParseError → Type 0
IsPartAt message end pos octets pointers (Ok part) = BeginsName part message end pos octets pointers
IsPartAt message end pos octets pointers (Err error) =
    IsFaultOf error (name_at message end pos octets pointers)

-- the labels that were read, where the name's own octets end, its length uncompressed, and whether
-- a pointer was followed
pub record SpansName (message : List ℕ) (end start : ℕ) (span : Span) : Type 0 where
  pub labels : List (List ℕ)
  pub read : name_at message end start 0 0 ≡ Ok (record { labels = labels; next = span.next })
  pub len : length (name_wire labels) ≡ span.len
  pub fits : span.len ≤ 255
  pub pointed : span.is_compressed ≡ is_pointed message end start
  pub in_data : span.next ≤ end
