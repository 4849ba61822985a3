-- Laws of names that were read: their labels, and their octets. Offered to the crates above:
-- `AreLabels-read`, `name_at-wire`, `is_pointed-wire`, the laws of `name_in`, and the lengths at
-- the end.
use Rattle.std.proofs.Common.{◌≡◌, ℕ, zero, suc, ◌+◌, ◌-◌, ◌*◌, ◌%◌, ◌<◌, ◌≤◌, ◌⊎◌, inl, inr, true, false, List, [], ◌∷◌, ◌++◌, length, take, drop, Result, Ok, Err, refl, sym, ap, ap₂, subst, ◌∙◌, arith, get_or, length-append, length-take, length-drop, append_assoc}
use Rattle.std.specs.Prelude.{slice_range}
use Rattle.std.proofs.lemmas.Bool.{cases_lt, cases_eq, cases_Bool}
use Rattle.std.proofs.lemmas.Bool.Decides.{nat_tests}
use Rattle.std.proofs.lemmas.List.{get_or-drop, drop-drop, drop_more, take-append-drop, take_at, drop_at, drop_all, append-nil}
use Rattle.name_spec.specs.Octets.{Fault, Form, ◌>>=◌}
use Rattle.name_spec.specs.Names.{NameRead, with_label, by_pointer, name_at, is_pointed, name_wire, AreLabels}
use Rattle.name_spec.specs.OwnedNames.{labels_to, name_in}
use Rattle.name_spec.proofs.NameLaws.{steps_left, name_at-end, name_at-root, name_at-short_label, name_at-long_label, name_at-label, name_at-reserved, name_at-short_pointer, name_at-bad_pointer, name_at-pointer, is_pointed-root, is_pointed-label, is_pointed-pointer}

-- ---- what stands where a name was read

with_label-ok : (label : List ℕ) (read : Result NameRead Fault) (name : NameRead)
    → with_label label read ≡ Ok name
    → (rest : NameRead) × (read ≡ Ok rest)
    × (name ≡ record { labels = label ∷ rest.labels; next = rest.next })
with_label-ok label (Ok rest) name is = (rest, refl, cc)
with_label-ok label (Err fault) name is = absurd cc

by_pointer-ok : (next : ℕ) (read : Result NameRead Fault) (name : NameRead)
    → by_pointer next read ≡ Ok name
    → (pointed : NameRead) × (read ≡ Ok pointed)
    × (name ≡ record { labels = pointed.labels; next = next })
by_pointer-ok next (Ok pointed) name is = (pointed, refl, cc)
by_pointer-ok next (Err fault) name is = absurd cc

-- the octet at a place
abbrev pub octet_at : List ℕ → ℕ → ℕ
octet_at message pos = get_or message pos 0

module _ (message : List ℕ) (end pos octets pointers : ℕ) (name : NameRead) where
  -- the root
  pub record RootHere : Type 0 where
    pub here : pos < end
    pub root : octet_at message pos ≡ 0
    pub name_is : name ≡ record { labels = []; next = pos + 1 }

  -- a label of 1 to 63 octets, and the rest of the name
  pub record LabelHere : Type 0 where
    pub rest : NameRead
    pub here : pos < end
    pub not_empty : 0 < octet_at message pos
    pub in_range : octet_at message pos < 64
    pub within : pos + 1 + octet_at message pos ≤ end
    pub octets_fit : octets + octet_at message pos + 1 ≤ 254
    pub rest_is : name_at message end (pos + 1 + octet_at message pos)
        (octets + octet_at message pos + 1) pointers ≡ Ok rest
    pub name_is : name
        ≡ record {
          labels = slice_range message (pos + 1) (pos + 1 + octet_at message pos)
              ∷ rest.labels;
          next = rest.next;
        }

  -- a pointer, and the name at its place
  pub record PointerHere : Type 0 where
    pub target : ℕ
    pub pointed : NameRead
    pub here : pos < end
    pub high : 64 ≤ octet_at message pos
    pub pointers_fit : pointers < 255
    pub pointed_is : name_at message end target octets (pointers + 1) ≡ Ok pointed
    pub name_is : name ≡ record { labels = pointed.labels; next = pos + 2 }

  abbrev pub NameHere : Type 0
  NameHere = RootHere ⊎ (LabelHere ⊎ PointerHere)

  module _ (read : name_at message end pos octets pointers ≡ Ok name) where
    root_here : pos < end → octet_at message pos ≡ 0 → RootHere
    root_here here root =
        let is = name_at-root message end pos octets pointers here root in
        record { here = here; root = root; name_is = cc }

    label_here : pos < end → 0 < octet_at message pos → octet_at message pos < 64 → LabelHere
    label_here here some small = elim (cases_lt end (pos + 1 + octet_at message pos)) [
      | inl past ↦ absurd
          (let fault = name_at-short_label message end pos octets pointers here some small past
          in cc)
      | inr not_past ↦
          let within : pos + 1 + octet_at message pos ≤ end = omega arith in
          elim (cases_lt 254 (octets + octet_at message pos + 1)) [
            | inl many ↦ absurd
                (let fault = name_at-long_label message end pos octets pointers here some small
                within many in cc)
            | inr not_many ↦
                let few : octets + octet_at message pos + 1 ≤ 254 = omega arith in
                let step = name_at-label message end pos octets pointers here some small within few
                in
                let found = with_label-ok
                (slice_range message (pos + 1) (pos + 1 + octet_at message pos))
                (name_at message end (pos + 1 + octet_at message pos)
                (octets + octet_at message pos + 1) pointers) name (sym step ∙ read) in
                record {
                  rest = found.0;
                  here = here;
                  not_empty = some;
                  in_range = small;
                  within = within;
                  octets_fit = few;
                  rest_is = found.1;
                  name_is = found.2;
                }
          ]
    ]

    pointer_here : pos < end → 64 ≤ octet_at message pos → PointerHere
    pointer_here here high = elim (cases_lt (octet_at message pos) 192) [
      | inl reserved ↦ absurd
          (let fault = name_at-reserved message end pos octets pointers here high reserved in cc)
      | inr not_reserved ↦
          let at_pointer : 192 ≤ octet_at message pos = omega arith in
          let target = (octet_at message pos % 64) * 256 + get_or message (pos + 1) 0 in
          elim (cases_lt (pos + 1) end) [
            | inr short ↦ absurd
                (let fault = name_at-short_pointer message end pos octets pointers here at_pointer
                (omega arith) in cc)
            | inl within ↦ elim (cases_lt target pos) [
              | inr ahead ↦ absurd
                  (let fault = name_at-bad_pointer message end pos octets pointers here at_pointer
                  within (inl (omega arith)) in cc)
              | inl back ↦ elim (cases_lt pointers 255) [
                | inr many ↦ absurd
                    (let fault = name_at-bad_pointer message end pos octets pointers here
                    at_pointer within (inr (omega arith)) in cc)
                | inl few ↦
                    let step = name_at-pointer message end pos octets pointers here at_pointer
                    within back few in
                    let found = by_pointer-ok (pos + 2)
                    (name_at message end target octets (pointers + 1)) name (sym step ∙ read) in
                    record {
                      target = target;
                      pointed = found.0;
                      here = here;
                      high = high;
                      pointers_fit = few;
                      pointed_is = found.1;
                      name_is = found.2;
                    }
              ]
            ]
          ]
    ]

    pub name_here : NameHere
    name_here = elim (cases_lt pos end) [
      | inr past ↦ absurd (let fault = name_at-end message end pos octets pointers (omega arith)
          in cc)
      | inl here ↦ elim (cases_eq (octet_at message pos) 0) [
        | inl root ↦ inl (root_here here root)
        | inr some ↦ elim (cases_lt (octet_at message pos) 64) [
          | inl small ↦ inr (inl (label_here here (omega arith) small))
          | inr large ↦ inr (inr (pointer_here here (omega arith)))
        ]
      ]
    ]

-- ---- the labels of a name that was read

length-label : (message : List ℕ) (pos n : ℕ) → pos + 1 + n ≤ length message
    → length (slice_range message (pos + 1) (pos + 1 + n)) ≡ n
length-label message pos n within =
    omega (
      arith,
      length-take (pos + 1 + n - (pos + 1)) (drop (pos + 1) message),
      length-drop
          (pos + 1) message,
    )

-- a label of so many octets in front of labels
AreLabels-label : (octets n : ℕ) (label : List ℕ) (labels : List (List ℕ)) → length label ≡ n
    → 0 < n → n < 64 → octets + n + 1 ≤ 254 → AreLabels (octets + n + 1) labels
    → AreLabels octets (label ∷ labels)
AreLabels-label octets n label labels len some small few rest =
    (omega arith, omega arith, omega arith, rw len rest)

-- the labels of a name are labels, since each step leaves fewer
AreLabels-within : (n : ℕ) (message : List ℕ) (end pos octets pointers : ℕ) (name : NameRead)
    → steps_left octets pointers ≤ n → end ≤ length message
    → name_at message end pos octets pointers ≡ Ok name → AreLabels octets name.labels
AreLabels-within zero message end pos octets pointers name in_n in_message read =
    elim (name_here message end pos octets pointers name read) [
      | inl root ↦ rw root.name_is tt
      | inr (inl label) ↦ absurd (omega (arith, label.octets_fit))
      | inr (inr pointer) ↦ absurd (omega (arith, pointer.pointers_fit))
    ]
AreLabels-within (suc n) message end pos octets pointers name in_n in_message read =
    elim (name_here message end pos octets pointers name read) [
      | inl root ↦ rw root.name_is tt
      | inr (inl label) ↦
          let len = length-label message pos (octet_at message pos) (omega (arith, label.within)) in
          let rest = AreLabels-within n message end _ _ pointers label.rest
          (omega (arith, label.octets_fit)) in_message label.rest_is in
          rw label.name_is
          (AreLabels-label octets (octet_at message pos) _ label.rest.labels len label.not_empty
          label.in_range label.octets_fit rest)
      | inr (inr pointer) ↦
          rw pointer.name_is
          (AreLabels-within n message end pointer.target octets (pointers + 1) pointer.pointed
          (omega (arith, pointer.pointers_fit)) in_message pointer.pointed_is)
    ]

pub AreLabels-read : (message : List ℕ) (end pos octets pointers : ℕ) (name : NameRead)
    → end ≤ length message
    → name_at message end pos octets pointers ≡ Ok name → AreLabels octets name.labels
AreLabels-read message end pos octets pointers name =
    AreLabels-within (steps_left octets pointers) message end pos octets pointers name (omega arith)

-- ---- the octets of an uncompressed name

-- a label's octets and those behind it
label_octets : (message : List ℕ) (pos n : ℕ) → n ≡ octet_at message pos → pos < length message
    → drop pos message ≡ n ∷ slice_range message (pos + 1) (pos + 1 + n)
    ++ drop (pos + 1 + n) message
label_octets message pos n is here =
    let split = take-append-drop n (drop (pos + 1) message) in
    let behind = drop-drop n (pos + 1) message in
    let len : pos + 1 + n - (pos + 1) ≡ n = omega arith in
    drop_more message pos 0 here
    ∙ ap (λ first. first ∷ drop (pos + 1) message) (sym is)
    ∙ ap (λ rest. n ∷ rest)
    (sym split ∙ ap (λ rest. take n (drop (pos + 1) message) ++ rest) behind
    ∙ ap (λ k. take k (drop (pos + 1) message) ++ drop (pos + 1 + n) message) (sym len))

-- the same with the octets of the labels behind it
label_wire : (message : List ℕ) (pos n next : ℕ) (labels : List (List ℕ))
    → n ≡ octet_at message pos → pos + 1 + n ≤ length message
    → drop (pos + 1 + n) message ≡ name_wire labels ++ drop next message
    → drop pos message ≡ name_wire (slice_range message (pos + 1) (pos + 1 + n) ∷ labels)
    ++ drop next message
label_wire message pos n next labels is within behind =
    let label = slice_range message (pos + 1) (pos + 1 + n) in
    let len = length-label message pos n within in
    label_octets message pos n is (omega arith)
    ∙ ap (λ rest. n ∷ label ++ rest) behind
    ∙ ap (λ rest. n ∷ rest) (sym (append_assoc label (name_wire labels) (drop next message)))
    ∙ ap (λ first. first ∷ (label ++ name_wire labels) ++ drop next message) (sym len)

root_wire : (message : List ℕ) (pos : ℕ) → octet_at message pos ≡ 0 → pos < length message
    → drop pos message ≡ name_wire [] ++ drop (pos + 1) message
root_wire message pos root here =
    drop_more message pos 0 here ∙ ap (λ first. first ∷ drop (pos + 1) message) root

-- where no pointer is followed, a name's octets stand in the message, since each step leaves fewer
name_wire-within : (n : ℕ) (message : List ℕ) (end pos octets pointers : ℕ) (name : NameRead)
    → steps_left octets pointers ≤ n → end ≤ length message
    → is_pointed message end pos ≡ false → name_at message end pos octets pointers ≡ Ok name
    → drop pos message ≡ name_wire name.labels ++ drop name.next message
name_wire-within zero message end pos octets pointers name in_n in_message plain read =
    elim (name_here message end pos octets pointers name read) [
      | inl root ↦ rw root.name_is (root_wire message pos root.root (omega (arith, root.here)))
      | inr (inl label) ↦ absurd (omega (arith, label.octets_fit))
      | inr (inr pointer) ↦ absurd (omega (arith, pointer.pointers_fit))
    ]
name_wire-within (suc n) message end pos octets pointers name in_n in_message plain read =
    elim (name_here message end pos octets pointers name read) [
      | inl root ↦ rw root.name_is (root_wire message pos root.root (omega (arith, root.here)))
      | inr (inl label) ↦
          let on = sym (is_pointed-label message end pos label.here label.not_empty label.in_range)
          ∙ plain in
          let behind = name_wire-within n message end _ _ pointers label.rest
          (omega (arith, label.octets_fit)) in_message on label.rest_is in
          rw label.name_is
          (label_wire message pos (octet_at message pos) label.rest.next label.rest.labels refl
          (omega (arith, label.within)) behind)
      | inr (inr pointer) ↦ absurd
          (let pointed = is_pointed-pointer message end pos pointer.here pointer.high in cc)
    ]

pub name_wire-read : (message : List ℕ) (end pos octets pointers : ℕ) (name : NameRead)
    → end ≤ length message
    → is_pointed message end pos ≡ false → name_at message end pos octets pointers ≡ Ok name
    → drop pos message ≡ name_wire name.labels ++ drop name.next message
name_wire-read message end pos octets pointers name =
    name_wire-within (steps_left octets pointers) message end pos octets pointers name (omega arith)

-- ---- reading back

-- the octet at a place, and those behind it
octet_here : (message : List ℕ) (pos first : ℕ) (others : List ℕ)
    → drop pos message ≡ first ∷ others → octet_at message pos ≡ first
octet_here message pos first others is =
    let at : pos + 0 ≡ pos = omega arith in
    ap (λ k. get_or message k 0) (sym at) ∙ sym (get_or-drop pos message 0 0)
    ∙ ap (λ rest. get_or rest 0 0) is

octets_behind : (message : List ℕ) (pos first : ℕ) (others : List ℕ)
    → drop pos message ≡ first ∷ others → drop (pos + 1) message ≡ others
octets_behind message pos first others is = sym (drop-drop 1 pos message) ∙ ap (drop 1) is

-- a label and what stands behind it
module _ (message : List ℕ) (pos : ℕ) (label others : List ℕ)
    (is : drop pos message ≡ length label ∷ label ++ others) where
  label_read : slice_range message (pos + 1) (pos + 1 + length label) ≡ label
  label_read =
      let len : length label ≡ pos + 1 + length label - (pos + 1) = omega arith in
      ap (take (pos + 1 + length label - (pos + 1))) (octets_behind message pos _ _ is)
      ∙ take_at label others _ len

  others_read : drop (pos + 1 + length label) message ≡ others
  others_read = sym (drop-drop (length label) (pos + 1) message)
      ∙ ap (drop (length label)) (octets_behind message pos _ _ is)
      ∙ drop_at label others (length label) refl

-- the octets of a name, and behind them others
wire_here : (message : List ℕ) (pos : ℕ) (label : List ℕ) (labels : List (List ℕ))
    (behind : List ℕ) → drop pos message ≡ name_wire (label ∷ labels) ++ behind
    → drop pos message ≡ length label ∷ label ++ (name_wire labels ++ behind)
wire_here message pos label labels behind is =
    is ∙ ap (λ rest. length label ∷ rest) (append_assoc label (name_wire labels) behind)

in_message : (message : List ℕ) (pos first : ℕ) (others : List ℕ)
    → drop pos message ≡ first ∷ others → pos < length message
in_message message pos first others is = omega (arith, length-drop pos message, ap length is)

label_at : (message : List ℕ) (end pos octets pointers n : ℕ) → octet_at message pos ≡ n
    → pos < end → 0 < n → n < 64 → pos + 1 + n ≤ end → octets + n + 1 ≤ 254
    → name_at message end pos octets pointers
    ≡ with_label (slice_range message (pos + 1) (pos + 1 + n))
    (name_at message end (pos + 1 + n) (octets + n + 1) pointers)
label_at message end pos octets pointers n is here some small within few =
    subst (λ (k : ℕ). name_at message end pos octets pointers
    ≡ with_label (slice_range message (pos + 1) (pos + 1 + k))
    (name_at message end (pos + 1 + k) (octets + k + 1) pointers)) is
    (name_at-label message end pos octets pointers here (omega arith) (omega arith) (omega arith)
    (omega arith))

-- a name's octets are read as that name
pub name_at-wire : (labels : List (List ℕ)) (message behind : List ℕ) (end pos octets pointers : ℕ)
    → AreLabels octets labels → pos + length (name_wire labels) ≤ end
    → drop pos message ≡ name_wire labels ++ behind
    → name_at message end pos octets pointers
    ≡ Ok (record { labels = labels; next = pos + length (name_wire labels) })
name_at-wire [] message behind end pos octets pointers are within is =
    name_at-root message end pos octets pointers (omega arith) (octet_here message pos 0 behind is)
name_at-wire (label ∷ labels) message behind end pos octets pointers are within is =
    let here = wire_here message pos label labels behind is in
    let long = length-append label (name_wire labels) in
    let rest = name_at-wire labels message behind end (pos + 1 + length label)
    (octets + length label + 1) pointers are.3 (omega arith)
    (others_read message pos label (name_wire labels ++ behind) here) in
    let next : pos + 1 + length label + length (name_wire labels)
    ≡ pos + length (name_wire (label ∷ labels)) = omega arith in
    label_at message end pos octets pointers (length label) (octet_here message pos _ _ here)
    (omega arith) are.0 are.1 (omega arith) are.2
    ∙ ap (with_label (slice_range message (pos + 1) (pos + 1 + length label))) rest
    ∙ ap (λ (first : List ℕ). Ok
    (record {
      labels = first ∷ labels;
      next = pos + 1 + length label + length (name_wire labels);
    })) (label_read message pos label (name_wire labels ++ behind) here)
    ∙ ap (λ (k : ℕ). Ok (record { labels = label ∷ labels; next = k })) next

-- and no pointer is followed
pub is_pointed-wire : (labels : List (List ℕ)) (message behind : List ℕ) (end pos octets : ℕ)
    → AreLabels octets labels → pos + length (name_wire labels) ≤ end
    → drop pos message ≡ name_wire labels ++ behind → is_pointed message end pos ≡ false
is_pointed-wire [] message behind end pos octets are within is =
    is_pointed-root message end pos (omega arith) (octet_here message pos 0 behind is)
is_pointed-wire (label ∷ labels) message behind end pos octets are within is =
    let here = wire_here message pos label labels behind is in
    let long = length-append label (name_wire labels) in
    let first = octet_here message pos _ _ here in
    let rest = is_pointed-wire labels message behind end (pos + 1 + length label)
    (octets + length label + 1) are.3 (omega arith)
    (others_read message pos label (name_wire labels ++ behind) here) in
    is_pointed-label message end pos (omega arith) (omega (arith, are.0)) (omega (arith, are.1))
    ∙ ap (λ n. is_pointed message end (pos + 1 + n)) first ∙ rest

-- ---- octets that are wholly a name

-- what `name_in` says of its octets
pub record IsNameIn (octets : List ℕ) (labels : List (List ℕ)) : Type 0 where
  pub read : name_at octets (length octets) 0 0 0
      ≡ Ok (record { labels = labels; next = length octets })
  pub plain : is_pointed octets (length octets) 0 ≡ false

labels_to-ok : (end : ℕ) (read : Result NameRead Fault) (labels : List (List ℕ))
    → (read >>= labels_to end) ≡ Ok labels → read ≡ Ok (record { labels = labels; next = end })
labels_to-ok end (Ok name) labels is = elim (cases_eq name.next end) [
  | inl whole ↦
      let found : labels_to end name ≡ Ok name.labels = grind (arith, nat_tests) in
      let same : name.labels ≡ labels = cc in
      ap₂ (λ (labels : List (List ℕ)) (next : ℕ). Ok (record { labels = labels; next = next }))
      same whole
  | inr over ↦ absurd (let refused : labels_to end name ≡ Err Form = grind (arith, nat_tests) in cc)
]
labels_to-ok end (Err fault) labels is = absurd cc

-- as the name that they are, with no pointer
pub name_in-plain : (octets : List ℕ) → is_pointed octets (length octets) 0 ≡ false
    → name_in octets ≡ (name_at octets (length octets) 0 0 0 >>= labels_to (length octets))
unfolding name_in
name_in-plain octets plain = rw plain refl

pub name_in-pointed : (octets : List ℕ) → is_pointed octets (length octets) 0 ≡ true
    → name_in octets ≡ Err Form
unfolding name_in
name_in-pointed octets pointed = rw pointed refl

pub name_in-read : (octets : List ℕ) (labels : List (List ℕ)) → name_in octets ≡ Ok labels
    → IsNameIn octets labels
name_in-read octets labels is = elim (cases_Bool (is_pointed octets (length octets) 0)) [
  | inl pointed ↦ absurd (let refused = name_in-pointed octets pointed in cc)
  | inr plain ↦ record {
    read = labels_to-ok (length octets) _ labels (sym (name_in-plain octets plain) ∙ is);
    plain = plain;
  }
]

-- its labels are labels
pub name_in-labels : (octets : List ℕ) (labels : List (List ℕ)) → name_in octets ≡ Ok labels
    → AreLabels 0 labels
name_in-labels octets labels is =
    AreLabels-read octets (length octets) 0 0 0 _ (omega arith) (name_in-read octets labels is).read

-- its octets are the name's
pub name_in-wire : (octets : List ℕ) (labels : List (List ℕ)) → name_in octets ≡ Ok labels
    → name_wire labels ≡ octets
name_in-wire octets labels is =
    let name = name_in-read octets labels is in
    let whole = name_wire-read octets (length octets) 0 0 0 _ (omega arith) name.plain name.read in
    sym (whole ∙ ap (λ rest. name_wire labels ++ rest)
    (drop_all (length octets) octets (omega arith)) ∙ append-nil (name_wire labels))

-- a name's octets are wholly that name
pub name_in-name_wire : (labels : List (List ℕ)) → AreLabels 0 labels
    → name_in (name_wire labels) ≡ Ok labels
name_in-name_wire labels are =
    let end = length (name_wire labels) in
    let here : drop 0 (name_wire labels) ≡ name_wire labels ++ [] =
    sym (append-nil (name_wire labels)) in
    let next : 0 + end ≡ end = omega arith in
    let read = name_at-wire labels (name_wire labels) [] end 0 0 0 are (omega arith) here
    ∙ ap (λ (k : ℕ). Ok (record { labels = labels; next = k })) next in
    let plain = is_pointed-wire labels (name_wire labels) [] end 0 0 are (omega arith) here in
    let whole : labels_to end (record { labels = labels; next = end }) ≡ Ok labels =
    grind (arith, nat_tests) in
    name_in-plain (name_wire labels) plain
    ∙ ap (λ (read : Result NameRead Fault). read >>= labels_to end) read ∙ whole

-- a name's octets behind a front are read as that name
pub name_at-name_wire : (front behind : List ℕ) (labels : List (List ℕ)) (end octets pointers : ℕ)
    → AreLabels octets labels → length front + length (name_wire labels) ≤ end
    → name_at (front ++ name_wire labels ++ behind) end (length front) octets pointers
    ≡ Ok (record { labels = labels; next = length front + length (name_wire labels) })
name_at-name_wire front behind labels end octets pointers are within =
    name_at-wire labels (front ++ name_wire labels ++ behind) behind end
    (length front) octets pointers are within
    (ap (drop (length front)) (append_assoc front (name_wire labels) behind)
    ∙ drop_at front (name_wire labels ++ behind) (length front) refl)

-- ---- lengths

-- labels within the limit have at most 255 octets, with the root
pub length-name_wire : (octets : ℕ) (labels : List (List ℕ)) → octets ≤ 254
    → AreLabels octets labels → octets + length (name_wire labels) ≤ 255
length-name_wire octets [] few are = omega arith
length-name_wire octets (label ∷ labels) few are =
    let rest = length-name_wire (octets + length label + 1) labels are.2 are.3 in
    omega (arith, length-append label (name_wire labels))

-- and each label has two octets at least, with its length
pub length-labels : (octets : ℕ) (labels : List (List ℕ)) → octets ≤ 254 → AreLabels octets labels
    → octets + 2 * length labels ≤ 254
length-labels octets [] few are = omega arith
length-labels octets (label ∷ labels) few are =
    let rest = length-labels (octets + length label + 1) labels are.2 are.3 in
    omega (arith, are.0)
