-- Laws of the definitions of names, which the functions of `src/laws.rt` state.
use Rattle.std.specs.Prelude.{◌≡◌, ℕ, ◌+◌, ◌≤◌, List, ◌++◌, length, Ok}
use Rattle.name_spec.specs.Names.{NameRead, name_step, name_at, pointed_step, is_pointed, name_wire, AreLabels}
use Rattle.name_spec.specs.OwnedNames.{name_in}

-- a name is read by one step, and the rest of it by `name_at` again
abbrev pub NameByStep : Type 0
NameByStep = (message : List ℕ) (end pos octets pointers : ℕ)
    → name_at message end pos octets pointers
    ≡ name_step (name_at message end) message end pos octets pointers

-- whether a pointer is followed is told by one step, and behind a label by `is_pointed` again
abbrev pub PointedByStep : Type 0
PointedByStep = (message : List ℕ) (end pos : ℕ)
    → is_pointed message end pos ≡ pointed_step (is_pointed message end) message end pos

-- the labels of a name that was read have 1 to 63 octets each, and with their lengths at most 254
abbrev pub NameHasLabels : Type 0
NameHasLabels = (message : List ℕ) (end pos octets pointers : ℕ) (name : NameRead)
    → end ≤ length message
    → name_at message end pos octets pointers ≡ Ok name
    → AreLabels octets name.labels

-- a name's octets behind a front, with others behind them, are read as that name
abbrev pub NameReadBack : Type 0
NameReadBack = (front behind : List ℕ) (labels : List (List ℕ)) (end octets pointers : ℕ)
    → AreLabels octets labels
    → length front + length (name_wire labels) ≤ end
    → name_at (front ++ name_wire labels ++ behind) end (length front) octets pointers
    ≡ Ok (record { labels = labels; next = length front + length (name_wire labels) })

-- a name's octets are wholly that name
abbrev pub NameInReadBack : Type 0
NameInReadBack = (labels : List (List ℕ))
    → AreLabels 0 labels
    → name_in (name_wire labels) ≡ Ok labels

-- octets that are wholly a name are that name's octets
abbrev pub NameInWire : Type 0
NameInWire = (octets : List ℕ) (labels : List (List ℕ))
    → name_in octets ≡ Ok labels
    → name_wire labels ≡ octets
