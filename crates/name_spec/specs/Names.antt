-- Names (RFC 1035, section 4.1.4): at most 255 octets uncompressed, and at most 255 pointers, each
-- to an earlier place. The bound on pointers and the order of the tests are this project's own.
use Rattle.std.specs.Prelude.{ℕ, zero, suc, ◌+◌, ◌-◌, ◌*◌, ◌%◌, ◌<◌, ◌≤◌, ◌||◌, Bool, true, false, List, [], ◌∷◌, ◌++◌, length, Result, Ok, Err, slice_index, slice_range, nat_lt, nat_le, ◌==◌, if◌then◌else◌}
use Rattle.name_spec.specs.Octets.{Fault, Short, Form}

-- a name that was read: its labels without the root, and the place behind the name's own octets
pub record NameRead : Type 0 where
  pub labels : List (List ℕ)
  pub next : ℕ

-- a label in front of the labels that follow it
abbrev pub with_label : List ℕ → Result NameRead Fault → Result NameRead Fault
with_label label (Ok rest) = Ok (record { labels = label ∷ rest.labels; next = rest.next })
with_label label (Err fault) = Err fault

-- the labels at the place of a pointer, behind which the name's own octets end
abbrev pub by_pointer : ℕ → Result NameRead Fault → Result NameRead Fault
by_pointer next (Ok target) = Ok (record { labels = target.labels; next = next })
by_pointer next (Err fault) = Err fault

-- How a name is read at a place: `octets` counts the labels so far with their length octets, and
-- `pointers` the pointers that were followed.
abbrev pub Reading : Type 0
Reading = (pos octets pointers : ℕ) → Result NameRead Fault

-- In the three steps below `again pos octets pointers` reads on at a place. The data ends at `end`.

-- a length of 1 to 63: a label, and the rest of the name
abbrev pub label_step : Reading → List ℕ → ℕ → ℕ → ℕ → ℕ → Result NameRead Fault
label_step again message end pos octets pointers =
    let first = slice_index message pos in
    let rest = again (pos + 1 + first) (octets + first + 1) pointers in
    if nat_lt end (pos + 1 + first) then Err Short
    else if nat_lt 254 (octets + first + 1) then Err Form
    else with_label (slice_range message (pos + 1) (pos + 1 + first)) rest

-- an octet of 192 or more: the low 14 bits of two octets are an earlier place, where the name goes
-- on
abbrev pub pointer_step : Reading → List ℕ → ℕ → ℕ → ℕ → ℕ → Result NameRead Fault
pointer_step again message end pos octets pointers =
    let target = (slice_index message pos % 64) * 256 + slice_index message (pos + 1) in
    let pointed = again target octets (pointers + 1) in
    if nat_le end (pos + 1) then Err Short
    else if nat_le pos target || nat_le 255 pointers then Err Form
    else by_pointer (pos + 2) pointed

-- the octet at the place says how the name goes on; 64 to 191 are reserved
unfoldable pub name_step : Reading → List ℕ → ℕ → ℕ → ℕ → ℕ → Result NameRead Fault
name_step again message end pos octets pointers =
    let first = slice_index message pos in
    let label = label_step again message end pos octets pointers in
    let pointer = pointer_step again message end pos octets pointers in
    if nat_le end pos then Err Short
    else if first == 0 then Ok (record { labels = []; next = pos + 1 })
    else if nat_lt first 64 then label
    else if nat_lt first 192 then Err Form
    else pointer

-- at most so many steps; what stands for no step is never asked for by `name_at`
unfoldable pub name_within : ℕ → List ℕ → ℕ → ℕ → ℕ → ℕ → Result NameRead Fault
name_within zero message end = name_step (λ _ _ _. Err Form) message end
name_within (suc steps) message end = name_step (name_within steps message end) message end

-- The name at a place. A label adds to `octets` and a pointer to `pointers`, so these steps are
-- enough: the law `name_at-step` says that `name_at` is `name_step` of itself.
unfoldable pub name_at : List ℕ → ℕ → ℕ → ℕ → ℕ → Result NameRead Fault
name_at message end pos octets pointers =
    name_within ((254 - octets) + (255 - pointers)) message end pos octets pointers

-- whether the labels at a place end in a pointer and not in the root, where `again pos` looks on
-- behind a label; a reserved octet counts as a pointer, since no name can be read there
unfoldable pub pointed_step : (ℕ → Bool) → List ℕ → ℕ → ℕ → Bool
pointed_step again message end pos =
    let first = slice_index message pos in
    let rest = again (pos + 1 + first) in
    if nat_le end pos then false
    else if first == 0 then false
    else if nat_lt first 64 then rest
    else true

unfoldable pub pointed_within : ℕ → List ℕ → ℕ → ℕ → Bool
pointed_within zero message end = pointed_step (λ _. false) message end
pointed_within (suc steps) message end = pointed_step (pointed_within steps message end) message end

-- Whether a pointer is followed to read the name at a place, where a name can be read: its own
-- labels end in a pointer, and not in the root. Each label goes on, so these steps are enough: the
-- law `is_pointed-step` says that it is `pointed_step` of itself.
unfoldable pub is_pointed : List ℕ → ℕ → ℕ → Bool
is_pointed message end pos = pointed_within (end - pos) message end pos

-- the uncompressed octets of a name: for each label its length and the label, and then the root's
-- octet 0
abbrev pub name_wire : List (List ℕ) → List ℕ
name_wire [] = 0 ∷ []
name_wire (label ∷ labels) = length label ∷ label ++ name_wire labels

-- labels that a name may have behind labels of so many octets: 1 to 63 octets each, and at most 254
-- with their lengths
abbrev pub AreLabels : ℕ → List (List ℕ) → Type 0
AreLabels octets [] = Unit {0}
AreLabels octets (label ∷ labels) =
    (0 < length label) × (length label < 64) × (octets + length label + 1 ≤ 254)
    × AreLabels (octets + length label + 1) labels
