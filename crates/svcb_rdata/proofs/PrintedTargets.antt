-- The labels with a dot behind each.
use Rattle.std.proofs.Common.{◌≡◌, ℕ, List, [], ◌∷◌, ◌++◌, sym, ap, ◌∙◌, append_assoc, arith}
use Rattle.name_spec.specs.Printed.{printed_label, printed_labels, printed_name, printed_name_with_dot}

between : (label : List ℕ) (labels : List (List ℕ))
    → printed_labels (label ∷ labels) ++ 46 ∷ [] ≡ printed_name_with_dot (label ∷ labels)
between label [] = grind (arith, append_assoc)
between label (next ∷ labels) =
    append_assoc (printed_label label) (46 ∷ printed_labels (next ∷ labels)) (46 ∷ [])
    ∙ ap (λ (t : List ℕ). printed_label label ++ 46 ∷ t) (between next labels)
    ∙ sym (append_assoc (printed_label label) (46 ∷ []) (printed_name_with_dot (next ∷ labels)))

-- are those with a dot between two of them, and a final dot
pub with_final_dot : (name labels : List (List ℕ)) (first : List ℕ) → name ≡ first ∷ labels
    → printed_name name ++ 46 ∷ [] ≡ printed_name_with_dot name
with_final_dot [] labels first is = absurd cc
with_final_dot (label ∷ others) labels first is = between label others
