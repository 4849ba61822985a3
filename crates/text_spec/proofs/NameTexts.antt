-- The printed text of a name is read as its labels. Offered to the crates above:
-- `are_labels-labels` and `AreLabels-are_labels`, which say that the test of labels decides
-- `AreLabels`, `parts-name`, `without_final_dot-parts`, `name_of-symbols` and `name_again`.
use Rattle.std.proofs.Common.{◌≡◌, ℕ, ◌+◌, ◌<◌, ◌≤◌, Bool, true, false, cond, ◌&&◌, ltb, leb, Some, None, List, [], ◌∷◌, ◌++◌, map, length, refl, ap, ◌∙◌, append_assoc, length-append, arith}
use Rattle.std.specs.Prelude.{◌==◌}
use Rattle.std.specs.List.{flat_map}
use Rattle.std.proofs.lemmas.Bool.Decides.{nat_tests}
use Rattle.std.proofs.lemmas.Grind.{flat_map-append}
use Rattle.name_spec.specs.Names.{AreLabels}
use Rattle.name_spec.specs.Printed.{Written, Plain, Escaped, Decimal, octet_text, is_special_in_name, is_visible, printed_as, printed_label, printed_name_with_dot}
use Rattle.name_spec.specs.AddressLaws.{AreOctets}
use Rattle.text_spec.specs.declared.lexeme.Symbol.{Symbol}
use Rattle.text_spec.specs.Pieces.{symbol_of, IsTokenText}
use Rattle.text_spec.specs.NameTexts.{is_bare_octet, is_lone, dotted_parts, without_final_dot, are_labels, if_labels, name_of}
use Rattle.text_spec.proofs.PrintedTexts.{AreBare, AreBare-append, AreBare-printed_in_name, written_as, written-printed, octet-printed, token_text-bare}

-- ---- the test of labels

-- one label, and the labels behind it
labels_test : (octets size : ℕ) (rest : Bool) → 0 < size → size < 64 → octets + size + 1 ≤ 254
    → rest ≡ true
    → (ltb 0 size && ltb size 64 && leb (octets + size + 1) 254 && rest) ≡ true
labels_test octets size rest some small fits r = grind (arith, nat_tests)

label_tested : (octets size : ℕ) (rest : Bool)
    → (ltb 0 size && ltb size 64 && leb (octets + size + 1) 254 && rest) ≡ true
    → (0 < size) × (size < 64) × (octets + size + 1 ≤ 254) × (rest ≡ true)
label_tested octets size rest h = grind (arith, nat_tests)

pub are_labels-labels : (octets : ℕ) (labels : List (List ℕ)) → AreLabels octets labels
    → are_labels octets labels ≡ true
are_labels-labels octets [] h = refl
are_labels-labels octets (label ∷ labels) h =
    labels_test octets (length label) (are_labels (octets + length label + 1) labels) h.0 h.1 h.2
    (are_labels-labels (octets + length label + 1) labels h.3)

pub AreLabels-are_labels : (octets : ℕ) (labels : List (List ℕ)) → are_labels octets labels ≡ true
    → AreLabels octets labels
AreLabels-are_labels octets [] h = tt
AreLabels-are_labels octets (label ∷ labels) h =
    let tested = label_tested octets (length label) (are_labels (octets + length label + 1) labels)
    h in
    (tested.0, tested.1, tested.2, AreLabels-are_labels (octets + length label + 1) labels tested.3)

-- ---- dots

-- the final dot
abbrev pub dot : Written
dot = Plain 46

abbrev pub label_written : List ℕ → List Written
label_written label = written_as is_special_in_name label

abbrev pub name_written : List (List ℕ) → List Written
name_written labels = flat_map (λ label. label_written label ++ dot ∷ []) labels

-- a label's own dots are escaped
dot_escaped : (c : ℕ) (special visible : Bool) → (special ≡ false → (c == 46) ≡ false)
    → is_bare_octet 46 (symbol_of (cond special (Escaped c) (cond visible (Plain c) (Decimal c))))
    ≡ false
dot_escaped c true visible h = refl
dot_escaped c false true h = h refl
dot_escaped c false false h = refl

pub not_dot : (c : ℕ) → is_bare_octet 46 (symbol_of (printed_as is_special_in_name c)) ≡ false
unfolding printed_as
not_dot c = dot_escaped c (is_special_in_name c) (is_visible c) (λ s. grind (arith, nat_tests))

parts-label : (label : List ℕ) (rest : List Written)
    → dotted_parts (map symbol_of (label_written label ++ dot ∷ rest))
    ≡ label ∷ dotted_parts (map symbol_of rest)
parts-label [] rest = refl
parts-label (c ∷ label) rest =
    rw (not_dot c, octet-printed is_special_in_name c, parts-label label rest) refl

-- the parts of a printed name are its labels, and nothing behind the final dot
pub parts-name : (labels : List (List ℕ)) → dotted_parts (map symbol_of (name_written labels))
    ≡ labels ++ [] ∷ []
parts-name [] = refl
parts-name (label ∷ labels) =
    ap (λ (t : List Written). dotted_parts (map symbol_of t))
    (append_assoc (label_written label) (dot ∷ []) (name_written labels))
    ∙ parts-label label (name_written labels)
    ∙ ap (λ (parts : List (List ℕ)). label ∷ parts) (parts-name labels)

pub without_final_dot-parts : (label : List ℕ) (labels : List (List ℕ))
    → without_final_dot ((label ∷ labels) ++ [] ∷ []) ≡ label ∷ labels
without_final_dot-parts label [] = refl
without_final_dot-parts label ([] ∷ []) = refl
without_final_dot-parts label ([] ∷ next ∷ labels) =
    ap (λ (ls : List (List ℕ)). label ∷ ls) (without_final_dot-parts [] (next ∷ labels))
without_final_dot-parts label ((c ∷ first) ∷ labels) =
    ap (λ (ls : List (List ℕ)). label ∷ ls) (without_final_dot-parts (c ∷ first) labels)

-- ---- the token of a name

-- at least two symbols are no lone one
lone_not : (octet c : ℕ) (label : List ℕ) (rest : List Written)
    → is_lone octet (map symbol_of (label_written (c ∷ label) ++ dot ∷ rest)) ≡ false
lone_not octet c [] rest = refl
lone_not octet c (next ∷ label) rest = refl

-- what a token that isn't lone spells
name_by_parts : (token : List Symbol) → is_lone 46 token ≡ false → is_lone 64 token ≡ false
    → name_of token ≡ if_labels (without_final_dot (dotted_parts token))
name_by_parts token d a = rw (d, a) refl

if_labels-labels : (labels : List (List ℕ)) → AreLabels 0 labels → if_labels labels ≡ Some labels
if_labels-labels labels h = ap (λ b. cond b (Some labels) None) (are_labels-labels 0 labels h)

-- the symbols of a printed name spell the name
pub name_of-symbols : (label : List ℕ) (labels : List (List ℕ)) → AreLabels 0 (label ∷ labels)
    → name_of (map symbol_of (name_written (label ∷ labels))) ≡ Some (label ∷ labels)
name_of-symbols [] labels h = absurd (omega (arith, h.0))
name_of-symbols (c ∷ label) labels h =
    let token = map symbol_of (name_written ((c ∷ label) ∷ labels)) in
    let lone : (octet : ℕ) → is_lone octet token ≡ false = λ octet.
    ap (λ (t : List Written). is_lone octet (map symbol_of t))
    (append_assoc (label_written (c ∷ label)) (dot ∷ []) (name_written labels))
    ∙ lone_not octet c label (name_written labels) in
    name_by_parts token (lone 46) (lone 64)
    ∙ ap (λ (parts : List (List ℕ)). if_labels (without_final_dot parts))
    (parts-name ((c ∷ label) ∷ labels))
    ∙ ap if_labels (without_final_dot-parts (c ∷ label) labels)
    ∙ if_labels-labels ((c ∷ label) ∷ labels) h

-- ---- the text of a name

written-name : (labels : List (List ℕ))
    → flat_map octet_text (name_written labels)
    ≡ flat_map (λ label. printed_label label ++ 46 ∷ []) labels
written-name [] = refl
written-name (label ∷ labels) =
    flat_map-append octet_text (label_written label ++ dot ∷ []) (name_written labels)
    ∙ ap (λ (t : List ℕ). t ++ flat_map octet_text (name_written labels))
    (flat_map-append octet_text (label_written label) (dot ∷ [])
    ∙ ap (λ (t : List ℕ). t ++ 46 ∷ []) (written-printed is_special_in_name label))
    ∙ ap (λ (t : List ℕ). (printed_label label ++ 46 ∷ []) ++ t) (written-name labels)

octets_front : (front behind : List ℕ) → AreOctets (front ++ behind) → AreOctets front
    × AreOctets behind
octets_front [] behind h = (tt, h)
octets_front (c ∷ front) behind h =
    let rest = octets_front front behind h.1 in
    ((h.0, rest.0), rest.1)

AreBare-name : (labels : List (List ℕ)) → AreOctets (flat_map (λ label. label) labels)
    → AreBare (name_written labels)
AreBare-name [] h = tt
AreBare-name (label ∷ labels) h =
    let octets = octets_front label (flat_map (λ l. l) labels) h in
    AreBare-append (label_written label ++ dot ∷ []) (name_written labels)
    (AreBare-append (label_written label) (dot ∷ []) (AreBare-printed_in_name label octets.0)
    (refl, tt))
    (AreBare-name labels octets.1)

-- bare symbols that aren't none are wholly a token
token_text-symbols : (symbols : List Written) → 0 < length symbols → AreBare symbols
    → IsTokenText (flat_map octet_text symbols) (map symbol_of symbols)
token_text-symbols [] some h = absurd (omega arith)
token_text-symbols (symbol ∷ symbols) some h = token_text-bare symbol symbols h

-- a printed name is read back
pub name_again : (labels : List (List ℕ)) → AreLabels 0 labels
    → AreOctets (flat_map (λ label. label) labels)
    → (token : List Symbol) × IsTokenText (printed_name_with_dot labels) token
    × (name_of token ≡ Some labels)
name_again [] h octets = (map symbol_of (dot ∷ []), token_text-bare dot [] (refl, tt), refl)
name_again (label ∷ labels) h octets =
    let symbols = name_written (label ∷ labels) in
    let some : 0 < length symbols =
    rw (append_assoc (label_written label) (dot ∷ []) (name_written labels))
    (omega (arith, length-append (label_written label) (dot ∷ name_written labels))) in (
      map symbol_of symbols,
      rw (← written-name (label ∷ labels))
          (token_text-symbols symbols some (AreBare-name (label ∷ labels) octets)),
      name_of-symbols
          label labels h,
    )
