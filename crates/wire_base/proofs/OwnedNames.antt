-- Octets that are wholly a name.
use Rattle.std.proofs.Common.{◌≡◌, ℕ, ◌+◌, ◌<◌, ◌≤◌, ◌==◌, if◌then◌else◌, Bool, true, false, List, [], ◌∷◌, length, Result, Ok, Err, IsOk, refl, sym, ap, ◌∙◌, arith, length-append}
use Rattle.std.proofs.lemmas.Bool.Decides.{nat_tests}
use Rattle.name_spec.specs.Octets.{Fault, Form, ◌>>=◌}
use Rattle.name_spec.specs.Names.{NameRead, name_at, name_wire, is_pointed, AreLabels}
use Rattle.name_spec.specs.OwnedNames.{labels_to, name_in}
use Rattle.name_spec.proofs.OwnedNameLaws.{name_in-read, name_in-labels, name_in-wire, name_in-name_wire, name_in-plain, name_in-pointed, length-name_wire, length-labels, AreLabels-read}
use Rattle.name_spec.proofs.NameLengths.{name_len}
use Rattle.wire_base.specs.NameParts.{SpansName}
use Rattle.wire_base.specs.declared.name_parts.Span.{Span}
use Rattle.wire_base.specs.NameView.{IsPlace, IsName, labels_of}
use Rattle.wire_base.specs.OwnedNameView.{labels_found, labels_in, IsWholeName}

-- octets that a name was found in
whole_name : (octets : List ℕ) (labels : List (List ℕ)) → name_in octets ≡ Ok labels
    → IsWholeName octets
whole_name octets labels found =
    let same : labels_in octets ≡ labels = ap labels_found found in
    record {
      read = found ∙ ap (λ (l : List (List ℕ)). Ok l) (sym same);
      wire = sym (name_in-wire octets labels found) ∙ ap name_wire (sym same);
      labels = rw same (name_in-labels octets labels found);
    }

-- the octets of labels
module _ (octets : List ℕ) (labels : List (List ℕ)) (wire : octets ≡ name_wire labels)
    (are : AreLabels 0 labels) where
  found : name_in octets ≡ Ok labels
  found = ap name_in wire ∙ name_in-name_wire labels are

  pub IsWholeName-wire : IsWholeName octets
  IsWholeName-wire = whole_name octets labels found

  pub labels_in-wire : labels_in octets ≡ labels
  labels_in-wire = ap labels_found found

  pub labels_of-wire : labels_of (name_at octets (length octets) 0 0 0) ≡ labels
  labels_of-wire = ap labels_of (name_in-read octets labels found).read

  pub IsPlace-wire : IsPlace octets (length octets) 0 0 0
  IsPlace-wire = record {
    in_message = omega arith;
    octets_fit = omega arith;
    pointers_fit = omega arith;
    read = rw (name_in-read octets labels found).read refl;
  }

not_empty : (labels : List (List ℕ)) → 0 < length (name_wire labels)
not_empty [] = omega arith
not_empty (label ∷ labels) = omega arith

pub name_fits : (labels : List (List ℕ)) → AreLabels 0 labels → length (name_wire labels) ≤ 255
name_fits labels are = omega (arith, length-name_wire 0 labels (omega arith) are)

-- each label has its length octet and another octet at least
pub labels_fit : (labels : List (List ℕ)) → AreLabels 0 labels → length labels ≤ 127
labels_fit labels are = omega (arith, length-labels 0 labels (omega arith) are)

-- a name has one octet exactly if it is the root
pub is_root-wire : (labels : List (List ℕ))
    → (length (name_wire labels) == 1) ≡ (length labels == 0)
is_root-wire [] = refl
is_root-wire (label ∷ labels) =
    let long = length-append label (name_wire labels) in
    let more : 0 < length (name_wire labels) = not_empty labels in
    grind (arith, nat_tests)

-- the root's octet
module _ (octets : List ℕ) (root : octets ≡ 0 ∷ []) where
  pub IsWholeName-root : IsWholeName octets
  IsWholeName-root = IsWholeName-wire octets [] root tt

  pub labels_in-root : labels_in octets ≡ []
  labels_in-root = labels_in-wire octets [] root tt

pub ruleset root_rules = (IsWholeName-root, labels_in-root)

pub ruleset wire_rules = (
  IsWholeName-wire,
  labels_in-wire,
  labels_of-wire,
  IsPlace-wire,
  name_fits,
  labels_fit,
  is_root-wire,
)

-- ---- reading octets that are wholly a name

module _ (octets : List ℕ) where
  pub pointed_name : is_pointed octets (length octets) 0 ≡ true → name_in octets ≡ Err Form
  pointed_name = name_in-pointed octets

  module _ (plain : is_pointed octets (length octets) 0 ≡ false) where
    pub faulty_name : (fault : Fault) → name_at octets (length octets) 0 0 0 ≡ Err fault
        → name_in octets ≡ Err fault
    faulty_name fault read =
        name_in-plain octets plain
        ∙ ap (λ (r : Result NameRead Fault). r >>= labels_to (length octets)) read

    labels_to_end : (labels : List (List ℕ)) (next : ℕ)
        → name_at octets (length octets) 0 0 0 ≡ Ok (record { labels = labels; next = next })
        → name_in octets ≡ (if next == length octets then Ok labels else Err Form)
    labels_to_end labels next read =
        name_in-plain octets plain
        ∙ ap (λ (r : Result NameRead Fault). r >>= labels_to (length octets)) read

    pub checked_name : (labels : List (List ℕ)) (next : ℕ)
        → name_at octets (length octets) 0 0 0 ≡ Ok (record { labels = labels; next = next })
        → next ≡ length octets → IsWholeName octets
    checked_name labels next read whole =
        whole_name octets labels
        (labels_to_end labels next read
        ∙ ap (λ (test : Bool). if test then Ok labels else Err Form)
        (let same : (next == length octets) ≡ true = grind (arith, nat_tests) in same))

    pub name_before : (labels : List (List ℕ)) (next : ℕ)
        → name_at octets (length octets) 0 0 0 ≡ Ok (record { labels = labels; next = next })
        → (next == length octets) ≡ false → name_in octets ≡ Err Form
    name_before labels next read over =
        labels_to_end labels next read
        ∙ ap (λ (test : Bool). if test then Ok labels else Err Form) over

pub ruleset reading_rules = (pointed_name, faulty_name, checked_name, name_before)

-- ---- names that were read in a message

labels_of-read : (message : List ℕ) (end start : ℕ) (read : Result NameRead Fault)
    → end ≤ length message → name_at message end start 0 0 ≡ read → IsOk read
    → AreLabels 0 (labels_of read)
labels_of-read message end start (Ok name) within is ok =
    AreLabels-read message end start 0 0 name within is
labels_of-read message end start (Err fault) within is ok = absurd cc

module _ (message : List ℕ) (end start len : ℕ) (name : IsName message end start len) where
  pub AreLabels-name : AreLabels 0 (labels_of (name_at message end start 0 0))
  AreLabels-name = labels_of-read message end start _ name.place.in_message refl name.place.read

  -- its octets by themselves
  module _ (octets : List ℕ)
      (wire : octets ≡ name_wire (labels_of (name_at message end start 0 0))) where
    pub IsWholeName-copy : IsWholeName octets
    IsWholeName-copy = IsWholeName-wire octets _ wire AreLabels-name

    pub labels_in-copy : labels_in octets ≡ labels_of (name_at message end start 0 0)
    labels_in-copy = labels_in-wire octets _ wire AreLabels-name

-- a name that follows no pointer has as many octets as stand up to the place behind it
pub len-plain : (message : List ℕ) (end start : ℕ) (span : Span)
    → SpansName message end start span → span.is_compressed ≡ false → end ≤ length message
    → start + length (name_wire (labels_of (name_at message end start 0 0))) ≡ span.next
len-plain message end start span spans plain in_message =
    let name : NameRead = record { labels = spans.labels; next = span.next } in
    let len = name_len message end start name spans.read (sym spans.pointed ∙ plain) in_message
    spans.in_data in
    rw spans.read len

pub ruleset labels_read = (AreLabels-name, len-plain)

pub ruleset copy_rules = (IsWholeName-copy, labels_in-copy)
