-- Where a name that was read ends in its message, and the length of one that stands uncompressed in
-- it. Offered to the crates above.
use Rattle.std.proofs.Common.{◌≡◌, ℕ, zero, suc, ◌+◌, ◌<◌, ◌≤◌, inl, inr, false, List, [], ◌∷◌, length, drop, Ok, ap, arith, length-append, length-drop}
use Rattle.name_spec.specs.Names.{NameRead, name_at, name_wire, is_pointed}
use Rattle.name_spec.proofs.NameLaws.{steps_left}
use Rattle.name_spec.proofs.OwnedNameLaws.{name_here, name_wire-read}

some_octets : (labels : List (List ℕ)) → 1 ≤ length (name_wire labels)
some_octets [] = omega arith
some_octets (label ∷ labels) = omega arith

-- where no pointer is followed, the name's octets are those up to the place behind it
pub name_len : (message : List ℕ) (end pos : ℕ) (name : NameRead)
    → name_at message end pos 0 0 ≡ Ok name → is_pointed message end pos ≡ false
    → end ≤ length message → name.next ≤ end
    → pos + length (name_wire name.labels) ≡ name.next
name_len message end pos name read plain in_message in_data =
    let octets = ap length (name_wire-read message end pos 0 0 name in_message plain read) in
    omega (
      arith,
      octets,
      some_octets name.labels,
      length-append (name_wire name.labels)
          (drop name.next message),
      length-drop pos message,
      length-drop name.next message,
    )

-- a name takes an octet at least, since each label leaves fewer
next_behind-within : (n : ℕ) (message : List ℕ) (end pos octets pointers : ℕ) (name : NameRead)
    → steps_left octets pointers ≤ n → name_at message end pos octets pointers ≡ Ok name
    → pos < name.next
next_behind-within zero message end pos octets pointers name in_n read =
    elim (name_here message end pos octets pointers name read) [
      | inl root ↦ rw root.name_is (omega arith)
      | inr (inl label) ↦ absurd (omega (arith, label.octets_fit))
      | inr (inr pointer) ↦ rw pointer.name_is (omega arith)
    ]
next_behind-within (suc n) message end pos octets pointers name in_n read =
    elim (name_here message end pos octets pointers name read) [
      | inl root ↦ rw root.name_is (omega arith)
      | inr (inl label) ↦
          let rest = next_behind-within n message end _ _ pointers label.rest
          (omega (arith, label.octets_fit)) label.rest_is in
          rw label.name_is (omega (arith, rest))
      | inr (inr pointer) ↦ rw pointer.name_is (omega arith)
    ]

pub next_behind : (message : List ℕ) (end pos octets pointers : ℕ) (name : NameRead)
    → name_at message end pos octets pointers ≡ Ok name → pos < name.next
next_behind message end pos octets pointers name =
    next_behind-within (steps_left octets pointers) message end pos octets pointers name
    (omega arith)
