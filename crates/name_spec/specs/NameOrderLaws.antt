-- Laws of the comparisons of names, and what they come to for a name's octets. Offered to the
-- crates above, whose equalities, orders and hashes of names are lawful by `same_name_ties` and
-- `fed-same`.
use Rattle.std.proofs.Common.{◌≡◌, ℕ, true, List, [], ◌∷◌, ◌++◌, length, map, reverse, refl, sym, ap, ◌∙◌}
use Rattle.std.specs.Prelude.{◌==◌}
use Rattle.std.specs.Bool.{Decides, one_answer}
use Rattle.std.specs.Char.{to_ascii_lowercase}
use Rattle.std.specs.Ordering.{nat_cmp, eq_by_cmp}
use Rattle.std.specs.Hash.{HashWrites}
use Rattle.std.specs.Cmp.Lexicographic.{pointwise, slice_cmp, pointwise_decides, bytes_decides, lists_ties, texts_ties}
use Rattle.std.proofs.lemmas.List.{map-append, reverse-reverse, length-map}
use Rattle.name_spec.specs.Names.{name_wire}
use Rattle.name_spec.specs.OwnedNames.{in_lower_case, is_same_name, from_last, name_cmp, lowered_wire}

-- ---- equality

labels_decide : (xs ys : List (List ℕ)) → Decides (pointwise (pointwise ◌==◌) xs ys) (xs ≡ ys)
labels_decide = pointwise_decides bytes_decides

-- names are the same exactly if their labels are equal in lower case
pub same_lowered : (xs ys : List (List ℕ))
    → Decides (is_same_name xs ys) (in_lower_case xs ≡ in_lower_case ys)
same_lowered xs ys = labels_decide (in_lower_case xs) (in_lower_case ys)

-- the order finds equal what is the same name
pub same_name_ties : (xs ys : List (List ℕ)) → is_same_name xs ys ≡ eq_by_cmp name_cmp xs ys
same_name_ties xs ys =
    let turned = labels_decide (from_last xs) (from_last ys) in
    let back : from_last xs ≡ from_last ys → in_lower_case xs ≡ in_lower_case ys =
    λ same. sym (reverse-reverse (in_lower_case xs)) ∙ ap reverse same
    ∙ reverse-reverse (in_lower_case ys) in
    one_answer _ _ (same_lowered xs ys)
    (λ is. back (turned.0 is), λ same. turned.1 (ap reverse same))
    ∙ lists_ties (slice_cmp nat_cmp) texts_ties (from_last xs) (from_last ys)

-- ---- octets in lower case

-- the octets of labels that are in lower case already
abbrev wire_of_lowered : List (List ℕ) → List ℕ
wire_of_lowered [] = to_ascii_lowercase 0 ∷ []
wire_of_lowered (label ∷ labels) =
    to_ascii_lowercase (length label) ∷ label ++ wire_of_lowered labels

wire_of_lowered-lowered : (labels : List (List ℕ))
    → lowered_wire labels ≡ wire_of_lowered (in_lower_case labels)
wire_of_lowered-lowered [] = refl
wire_of_lowered-lowered (label ∷ labels) =
    let len : to_ascii_lowercase (length label)
    ≡ to_ascii_lowercase (length (map to_ascii_lowercase label)) =
    ap to_ascii_lowercase (sym (length-map label to_ascii_lowercase)) in
    ap (λ (first : ℕ). first ∷ map to_ascii_lowercase (label ++ name_wire labels)) len
    ∙ ap (λ (rest : List ℕ). to_ascii_lowercase (length (map to_ascii_lowercase label)) ∷ rest)
    (map-append to_ascii_lowercase label (name_wire labels)
    ∙ ap (λ (rest : List ℕ). map to_ascii_lowercase label ++ rest)
    (wire_of_lowered-lowered labels))

-- the same name has the same octets in lower case
pub lowered_wire-same : (xs ys : List (List ℕ)) → is_same_name xs ys ≡ true
    → lowered_wire xs ≡ lowered_wire ys
lowered_wire-same xs ys same =
    wire_of_lowered-lowered xs ∙ ap wire_of_lowered ((same_lowered xs ys).0 same)
    ∙ sym (wire_of_lowered-lowered ys)

-- so what is fed of these octets is alike for the same name
pub fed-same : (feed : List ℕ → HashWrites) (xs ys : List (List ℕ)) → is_same_name xs ys ≡ true
    → feed (lowered_wire xs) ≡ feed (lowered_wire ys)
fed-same feed xs ys same = ap feed (lowered_wire-same xs ys same)
