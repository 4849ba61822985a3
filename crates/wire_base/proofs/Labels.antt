-- The labels that an iterator has left.
use Rattle.std.proofs.Common.{◌≡◌, ℕ, ◌+◌, List, drop, Option, Some, None, Bor, sym, ap, ◌∙◌}
use Rattle.std.specs.Iterator.{YieldsFirstRef}
use Rattle.std.proofs.lemmas.List.{drop-drop}
use Rattle.name_spec.specs.Names.{name_at}
use Rattle.wire_base.specs.NameView.{IsPlace, labels_of}

-- the name at this place can be read, and has these labels
pub record HasLabels (labels : List (List ℕ)) (message : List ℕ)
    (end pos octets pointers : ℕ) : Type 0 where
  pub place : IsPlace message end pos octets pointers
  pub labels_are : labels_of (name_at message end pos octets pointers) ≡ labels

-- `next` passes over one label more, if there is one
pub next_dropped : (all rest after : List (List ℕ)) (count : ℕ) (next : Option (Bor (List ℕ)))
    → rest ≡ drop count all → YieldsFirstRef (λ labels. labels) rest next after
    → after ≡ drop (count + 1) all
next_dropped all rest after count None so_far gives =
    gives.1 ∙ sym (ap (drop 1) (sym so_far ∙ gives.0)) ∙ drop-drop 1 count all
next_dropped all rest after count (Some label) so_far gives =
    sym (ap (drop 1) gives) ∙ ap (drop 1) so_far ∙ drop-drop 1 count all
