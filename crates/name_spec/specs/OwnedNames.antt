-- Names by themselves: octets that are wholly a name, ASCII case, and orders.
use Rattle.std.specs.Prelude.{ℕ, Bool, List, map, reverse, length, Result, Ok, Err, ◌==◌, if◌then◌else◌}
use Rattle.std.specs.Char.{to_ascii_lowercase}
use Rattle.std.specs.declared.cmp.Ordering.{Ordering}
use Rattle.std.specs.Ordering.{nat_cmp, on}
use Rattle.std.specs.Cmp.Lexicographic.{pointwise, slice_cmp}
use Rattle.name_spec.specs.Octets.{Fault, Form, ◌>>=◌}
use Rattle.name_spec.specs.Names.{NameRead, name_at, is_pointed, name_wire}

-- the labels of a name that ends where the data does; octets behind the root are not allowed
abbrev pub labels_to : ℕ → NameRead → Result (List (List ℕ)) Fault
labels_to end name = if name.next == end then Ok name.labels else Err Form

-- The labels, without the root, of octets that are wholly an uncompressed name (RFC 1035, section
-- 3.1). An octet of 64 or more where a label begins is not allowed, even as the last octet.
unfoldable pub name_in : List ℕ → Result (List (List ℕ)) Fault
name_in octets =
    let end = length octets in
    if is_pointed octets end 0 then Err Form
    else name_at octets end 0 0 0 >>= labels_to end

-- labels with A to Z as a to z
abbrev pub in_lower_case : List (List ℕ) → List (List ℕ)
in_lower_case labels = map (map to_ascii_lowercase) labels

-- equal labels, ASCII case ignored (RFC 4343, section 3)
abbrev pub is_same_name : List (List ℕ) → List (List ℕ) → Bool
is_same_name = on in_lower_case (pointwise (pointwise ◌==◌))

-- the labels from the last to the first, in lower case
abbrev pub from_last : List (List ℕ) → List (List ℕ)
from_last labels = reverse (in_lower_case labels)

-- the canonical order (RFC 4034, section 6.1): labels from the last to the first, each by its
-- octets in lower case, and the name with fewer labels first
abbrev pub name_cmp : List (List ℕ) → List (List ℕ) → Ordering
name_cmp = on from_last (slice_cmp (slice_cmp nat_cmp))

-- the uncompressed octets in lower case (RFC 4034, section 6.2)
abbrev pub lowered_wire : List (List ℕ) → List ℕ
lowered_wire labels = map to_ascii_lowercase (name_wire labels)

-- the order of the uncompressed octets in lower case
abbrev pub composed_cmp : List (List ℕ) → List (List ℕ) → Ordering
composed_cmp = on lowered_wire (slice_cmp nat_cmp)
