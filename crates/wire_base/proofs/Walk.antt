-- Reading a name part by part.
use Rattle.std.proofs.Common.{◌≡◌, ℕ, ◌+◌, ◌-◌, ◌≤◌, Bool, ◌||◌, List, [], ◌∷◌, ◌++◌, length, drop, Option, Result, Ok, Err, refl, ap, ◌∙◌, arith, length-append, length-take, length-drop, append_assoc}
use Rattle.std.specs.Prelude.{slice_range, is_some, unwrap_or, IfSome}
use Rattle.name_spec.specs.Octets.{Fault}
use Rattle.name_spec.specs.Names.{NameRead, with_label, name_at, name_wire, is_pointed}

-- the labels in front of those that are still to be read, and the place behind the first pointer,
-- where there was one
abbrev pub with_front : List (List ℕ) → Option ℕ → Result NameRead Fault → Result NameRead Fault
with_front front next (Ok rest) =
    Ok (record { labels = front ++ rest.labels; next = unwrap_or next rest.next })
with_front front next (Err fault) = Err fault

with_front-label : (front : List (List ℕ)) (next : Option ℕ) (label : List ℕ)
    (read : Result NameRead Fault)
    → with_front front next (with_label label read) ≡ with_front (front ++ label ∷ []) next read
with_front-label front next label (Ok rest) = simp append_assoc
with_front-label front next label (Err fault) = refl

-- a label adds its length and its length octet
length-name_wire-push : (front : List (List ℕ)) (label : List ℕ)
    → length (name_wire (front ++ label ∷ [])) ≡ length (name_wire front) + length label + 1
length-name_wire-push [] label = omega (arith, length-append label (0 ∷ []))
length-name_wire-push (first ∷ front) label =
    omega (
      arith,
      length-name_wire-push front label,
      length-append first
          (name_wire (front ++ label ∷ [])),
      length-append first (name_wire front),
    )

length-slice_range : (xs : List ℕ) (a n : ℕ) → a + n ≤ length xs
    → length (slice_range xs a (a + n)) ≡ n
length-slice_range xs a n within =
    omega (arith, length-take (a + n - a) (drop a xs), length-drop a xs)

-- the name from `start` on was read as far as `pos`
pub record WalksTo (message : List ℕ) (end start pos octets pointers : ℕ)
    (next : Option ℕ) : Type 0 where
  pub front : List (List ℕ)
  pub read : name_at message end start 0 0
      ≡ with_front front next (name_at message end pos octets pointers)
  pub pointed : is_pointed message end start ≡ (is_some next || is_pointed message end pos)
  pub len : length (name_wire front) ≡ octets + 1
  pub octets_fit : octets ≤ 254
  pub pointers_fit : pointers ≤ 255
  pub in_data : IfSome next (λ n. n ≤ end)

module _ (message : List ℕ) (end start pos octets pointers : ℕ) (next : Option ℕ)
    (so_far : WalksTo message end start pos octets pointers next) where
  pub walks_over_label : (len pos' octets' : ℕ) → pos' ≡ pos + 1 + len → octets' ≡ octets + len + 1
      → pos + 1 + len ≤ length message → octets + len + 1 ≤ 254
      → name_at message end pos octets pointers
      ≡ with_label (slice_range message (pos + 1) (pos + 1 + len))
      (name_at message end (pos + 1 + len) (octets + len + 1) pointers)
      → is_pointed message end pos ≡ is_pointed message end (pos + 1 + len)
      → WalksTo message end start pos' octets' pointers next
  walks_over_label len pos' octets' at_pos at_octets within fits is pointed =
      rw (at_pos, at_octets)
      (let label = slice_range message (pos + 1) (pos + 1 + len) in
      record {
        front = so_far.front ++ label ∷ [];
        read = so_far.read ∙ ap (with_front so_far.front next) is
            ∙ with_front-label so_far.front next label _;
        pointed = so_far.pointed ∙ ap (λ (rest : Bool). is_some next || rest) pointed;
        len = omega (
          arith,
          length-name_wire-push so_far.front label,
          length-slice_range message
              (pos + 1) len within,
          so_far.len,
        );
        octets_fit = fits;
        pointers_fit = so_far.pointers_fit;
        in_data = so_far.in_data;
      })
