-- A name's text, label by label.
use Rattle.std.proofs.Common.{◌≡◌, ℕ, zero, suc, ◌+◌, ◌-◌, ◌<◌, ◌≤◌, ◌⊎◌, inl, inr, Bool, true, false, cond, ◌&&◌, Option, Some, None, Result, Ok, Err, List, [], ◌∷◌, ◌++◌, length, take, drop, refl, sym, ap, subst, ◌∙◌, add-one, append_assoc, length-append, arith}
use Rattle.std.specs.Prelude.{nat_lt, nat_le, option_map}
use Rattle.std.specs.Option.{ok_or}
use Rattle.std.proofs.lemmas.Bool.{and_parts, cases_Bool}
use Rattle.std.proofs.lemmas.Bool.Decides.{nat_tests}
use Rattle.std.proofs.lemmas.List.{append-nil, drop-drop, length-drop, length-map, length-take-le}
use Rattle.std.proofs.lemmas.Grind.{flat_map-append}
use borrow.Author.Tests.{ltb-true, leb-true}
use Rattle.name_spec.specs.Names.{name_wire, AreLabels}
use Rattle.name_spec.specs.OwnedNames.{name_in}
use Rattle.name_spec.proofs.OwnedNameLaws.{name_in-name_wire, length-name_wire}
use Rattle.wire_base.specs.declared.errors.ParseError.{ParseError}
use Rattle.wire_base.specs.declared.errors.ParseError.TheVariants.{ShortInput, Form}
use Rattle.wire_base.specs.declared.errors.ParseError.TheVariants as parse_errors
use Rattle.wire_base.specs.Faults.{IsFaultOf}
use Rattle.text_spec.specs.declared.errors.ScanError.{ScanError}
use Rattle.text_spec.specs.declared.errors.ScanError.TheVariants.{BadName, NoMemory}
use Rattle.text_spec.specs.declared.lexeme.Symbol.{Symbol}
use Rattle.text_spec.specs.NameTexts.{is_bare_octet, is_lone, onto_first, dotted_parts, without_final_dot, are_labels, if_labels}
use Rattle.text_spec.specs.Scanning.{Answers, octets_of}
use Rattle.text_spec.specs.Rows.{by_name}
use Rattle.dns_text.specs.Labels.{label_len, spelled_labels, lengths_and_labels, wire_of}

-- ---- the first label

-- the parts behind a label, from its dot on
abbrev parts_from : List Symbol → List (List ℕ)
parts_from [] = []
parts_from (dot ∷ symbols) = dotted_parts symbols

-- a label stands before its dot
dotted_parts-first : (symbols : List Symbol)
    → dotted_parts symbols
    ≡ octets_of (take (label_len symbols) symbols)
    ∷ parts_from (drop (label_len symbols) symbols)
dotted_parts-first [] = refl
dotted_parts-first (symbol ∷ symbols) =
    let all = symbol ∷ symbols in
    let further : (k : ℕ)
    → onto_first symbol.octet (octets_of (take k symbols) ∷ parts_from (drop k symbols))
    ≡ octets_of (take (k + 1) all) ∷ parts_from (drop (k + 1) all) =
    λ k. ap (λ (n : ℕ). octets_of (take n all) ∷ parts_from (drop n all)) (sym (add-one k)) in
    elim (is_bare_octet 46 symbol) as
    (λ b. cond b ([] ∷ dotted_parts symbols) (onto_first symbol.octet (dotted_parts symbols))
    ≡ octets_of (take (cond b 0 (label_len symbols + 1)) all)
    ∷ parts_from (drop (cond b 0 (label_len symbols + 1)) all)) [
      | true ↦ refl
      | false ↦ ap (onto_first symbol.octet) (dotted_parts-first symbols)
          ∙ further (label_len symbols)
    ]

-- there are more parts than an empty one
without_final_dot-more : (part : List ℕ) (symbol : Symbol) (symbols : List Symbol)
    → without_final_dot (part ∷ dotted_parts (symbol ∷ symbols))
    ≡ part ∷ without_final_dot (dotted_parts (symbol ∷ symbols))
without_final_dot-more part symbol symbols =
    let first = octets_of (take (label_len symbols) symbols) in
    let others = parts_from (drop (label_len symbols) symbols) in
    elim (is_bare_octet 46 symbol) as
    (λ b. without_final_dot
    (part ∷ cond b ([] ∷ dotted_parts symbols) (onto_first symbol.octet (dotted_parts symbols)))
    ≡ part ∷ without_final_dot
    (cond b ([] ∷ dotted_parts symbols) (onto_first symbol.octet (dotted_parts symbols)))) [
      | true ↦ subst
          (λ (parts : List (List ℕ)). without_final_dot (part ∷ [] ∷ parts)
          ≡ part ∷ without_final_dot ([] ∷ parts)) (sym (dotted_parts-first symbols)) refl
      | false ↦ subst
          (λ (parts : List (List ℕ)). without_final_dot (part ∷ onto_first symbol.octet parts)
          ≡ part ∷ without_final_dot (onto_first symbol.octet parts))
          (sym (dotted_parts-first symbols)) refl
    ]

-- behind a label stand the labels of the symbols behind its dot
without_final_dot-from : (part : List ℕ) (behind : List Symbol)
    → without_final_dot (part ∷ parts_from behind) ≡ part ∷ spelled_labels (drop 1 behind)
without_final_dot-from part [] = refl
without_final_dot-from part (dot ∷ []) = refl
without_final_dot-from part (dot ∷ symbol ∷ symbols) = without_final_dot-more part symbol symbols

labels_of-nonempty : (symbols : List Symbol) → 0 < length symbols
    → spelled_labels symbols ≡ without_final_dot (dotted_parts symbols)
labels_of-nonempty [] some = absurd (omega arith)
labels_of-nonempty (symbol ∷ symbols) some = refl

-- the labels of symbols are the first, and those of the symbols behind its dot
pub labels_of-first : (symbols : List Symbol) → 0 < length symbols
    → spelled_labels symbols
    ≡ octets_of (take (label_len symbols) symbols)
    ∷ spelled_labels (drop (label_len symbols + 1) symbols)
labels_of-first symbols some =
    labels_of-nonempty symbols some ∙ ap without_final_dot (dotted_parts-first symbols)
    ∙ without_final_dot-from _ (drop (label_len symbols) symbols)
    ∙ ap (λ (left : List Symbol). octets_of (take (label_len symbols) symbols)
    ∷ spelled_labels left) (drop-drop 1 (label_len symbols) symbols)

-- a label lies within the symbols
pub label_len-within : (symbols : List Symbol) → label_len symbols ≤ length symbols
label_len-within [] = omega arith
label_len-within (symbol ∷ symbols) =
    elim (is_bare_octet 46 symbol) as
    (λ b. cond b 0 (label_len symbols + 1) ≤ length (symbol ∷ symbols)) [
      | true ↦ omega arith
      | false ↦ omega (arith, label_len-within symbols)
    ]

pub ruleset symbol_rules = (label_len-within)

-- ---- lengths

-- what follows labels is tested behind their octets
pub are_labels-append : (n : ℕ) (labels more : List (List ℕ)) → are_labels n labels ≡ true
    → are_labels n (labels ++ more) ≡ are_labels (n + length (lengths_and_labels labels)) more
are_labels-append n [] more are =
    ap (λ (k : ℕ). are_labels k more) (let same : n ≡ n + 0 = omega arith in same)
are_labels-append n (label ∷ labels) more are =
    let n' = n + length label + 1 in
    let parts = and_parts (nat_lt 0 (length label) && nat_lt (length label) 64 && nat_le n' 254)
    (are_labels n' labels) are in
    let same : n' + length (lengths_and_labels labels)
    ≡ n + length (lengths_and_labels (label ∷ labels)) =
    omega (arith, length-append label (lengths_and_labels labels)) in
    ap (λ (b : Bool). b && are_labels n' (labels ++ more)) parts.0
    ∙ are_labels-append n' labels more parts.1 ∙ ap (λ (k : ℕ). are_labels k more) same

-- a label of a length that it may not have, or too long a name
pub are_labels-refused : (n : ℕ) (label : List ℕ) (labels : List (List ℕ)) → (length label ≡ 0)
    ⊎ ((63 < length label) ⊎ (254 < n + length label + 1))
    → are_labels n (label ∷ labels) ≡ false
are_labels-refused n label labels (inl none) = grind (arith, nat_tests)
are_labels-refused n label labels (inr (inl many)) = grind (arith, nat_tests)
are_labels-refused n label labels (inr (inr long)) = grind (arith, nat_tests)

pub are_labels-one : (n : ℕ) (label : List ℕ) → 0 < length label → length label < 64
    → n + length label + 1 ≤ 254 → are_labels n (label ∷ []) ≡ true
are_labels-one n label some few within = grind (arith, nat_tests)

-- labels that pass the test are labels
pub AreLabels-true : (n : ℕ) (labels : List (List ℕ)) → are_labels n labels ≡ true
    → AreLabels n labels
AreLabels-true n [] are = tt
AreLabels-true n (label ∷ labels) are =
    let n' = n + length label + 1 in
    let parts = and_parts (nat_lt 0 (length label) && nat_lt (length label) 64 && nat_le n' 254)
    (are_labels n' labels) are in
    let lengths = and_parts (nat_lt 0 (length label) && nat_lt (length label) 64)
    (nat_le n' 254) parts.0 in
    let both = and_parts (nat_lt 0 (length label)) (nat_lt (length label) 64) lengths.0 in
    let some : 0 < length label = ltb-true _ _ both.0 in
    let few : length label < 64 = ltb-true _ _ both.1 in
    let within : n' ≤ 254 = leb-true _ _ lengths.1 in
    (some, few, within, AreLabels-true n' labels parts.1)

-- ---- octets

pub name_wire-labels : (labels : List (List ℕ))
    → lengths_and_labels labels ++ 0 ∷ [] ≡ name_wire labels
name_wire-labels [] = refl
name_wire-labels (label ∷ labels) =
    ap (λ (rest : List ℕ). length label ∷ rest)
    (append_assoc label (lengths_and_labels labels) (0 ∷ [])
    ∙ ap (λ (rest : List ℕ). label ++ rest) (name_wire-labels labels))

pub lengths_and_labels-append : (labels : List (List ℕ)) (label : List ℕ)
    → lengths_and_labels (labels ++ label ∷ []) ≡ lengths_and_labels labels ++ length label ∷ label
lengths_and_labels-append labels label =
    flat_map-append (λ label. length label ∷ label) labels (label ∷ [])
    ∙ ap (λ (last : List ℕ). lengths_and_labels labels ++ length label ∷ last) (append-nil label)

-- ---- a token, label by label

-- These octets are written of a token, and these symbols are left of it.
pub record IsWritten (token left : List Symbol) (octets : List ℕ) : Type 0 where
  pub labels : List (List ℕ)
  pub are : are_labels 0 labels ≡ true
  pub written : octets ≡ lengths_and_labels labels
  pub within : length octets ≤ 254
  pub all : spelled_labels token ≡ labels ++ spelled_labels left

pub written-none : (token : List Symbol) → IsWritten token token []
written-none token =
    record { labels = []; are = refl; written = refl; within = omega arith; all = refl }

length-label : (symbols : List Symbol) → length (octets_of (take (label_len symbols) symbols))
    ≡ label_len symbols
length-label symbols = length-map (take (label_len symbols) symbols) (λ symbol. symbol.octet)
    ∙ length-take-le (label_len symbols) symbols (label_len-within symbols)

module _ (token left : List Symbol) (octets : List ℕ) (so_far : IsWritten token left octets)
    (some : 0 < length left) where
  label_tested : are_labels 0 (spelled_labels token)
      ≡ are_labels (length octets)
      (octets_of (take (label_len left) left) ∷ spelled_labels (drop (label_len left + 1) left))
  label_tested =
      ap (are_labels 0)
      (so_far.all ∙ ap (λ (more : List (List ℕ)). so_far.labels ++ more)
      (labels_of-first left some))
      ∙ are_labels-append 0 so_far.labels _ so_far.are
      ∙ ap (λ (k : ℕ). are_labels k
      (octets_of (take (label_len left) left) ∷ spelled_labels (drop (label_len left + 1) left)))
      (let same : 0 + length (lengths_and_labels so_far.labels)
      ≡ length octets = omega (arith, ap (λ (o : List ℕ). length o) so_far.written) in same)

  pub written-refused : (label_len left ≡ 0)
      ⊎ ((63 < label_len left) ⊎ (254 < length octets + label_len left + 1))
      → wire_of token ≡ Err BadName
  written-refused bad =
      let long = length-label left in
      let is_bad : (length (octets_of (take (label_len left) left)) ≡ 0)
      ⊎ ((63 < length (octets_of (take (label_len left) left)))
      ⊎ (254 < length octets + length (octets_of (take (label_len left) left)) + 1)) =
      elim bad [
        | inl none ↦ inl (omega arith)
        | inr (inl many) ↦ inr (inl (omega arith))
        | inr (inr over) ↦ inr (inr (omega arith))
      ] in
      let refused : are_labels 0 (spelled_labels token) ≡ false =
      label_tested
      ∙ are_labels-refused (length octets) (octets_of (take (label_len left) left))
      (spelled_labels (drop (label_len left + 1) left)) is_bad in
      ap (λ (b : Bool). ok_or (option_map name_wire (cond b (Some (spelled_labels token)) None))
      BadName) refused

  pub written-label : 0 < label_len left → label_len left < 64
      → length octets + label_len left + 1 ≤ 254
      → IsWritten token (drop (label_len left + 1) left)
      (octets ++ label_len left ∷ octets_of (take (label_len left) left))
  written-label some_octets few within =
      let label = octets_of (take (label_len left) left) in
      let long : length label ≡ label_len left = length-label left in
      let octets_so_far : 0 + length (lengths_and_labels so_far.labels) ≡ length octets =
      omega (arith, ap (λ (o : List ℕ). length o) so_far.written) in
      let one : are_labels (0 + length (lengths_and_labels so_far.labels)) (label ∷ []) ≡ true =
      are_labels-one (0 + length (lengths_and_labels so_far.labels)) label (omega arith)
      (omega arith) (omega arith) in
      record {
        labels = so_far.labels ++ label ∷ [];
        are = are_labels-append 0 so_far.labels (label ∷ []) so_far.are ∙ one;
        written = ap (λ (n : ℕ). octets ++ n ∷ label) (sym long)
            ∙ ap (λ (o : List ℕ). o ++ length label ∷ label) so_far.written
            ∙ sym (lengths_and_labels-append so_far.labels label);
        within = omega (arith, length-append octets (label_len left ∷ label));
        all = so_far.all
            ∙ ap (λ (more : List (List ℕ)). so_far.labels ++ more) (labels_of-first left some)
            ∙ sym (append_assoc so_far.labels (label ∷ [])
            (spelled_labels (drop (label_len left + 1) left)));
      }

none_left : (symbols : List Symbol) → length symbols ≡ 0 → spelled_labels symbols ≡ []
none_left [] none = refl
none_left (symbol ∷ symbols) none = absurd (omega arith)

pub written-end : (token left : List Symbol) (octets : List ℕ) → IsWritten token left octets
    → length left ≡ 0 → wire_of token ≡ Ok (octets ++ 0 ∷ [])
written-end token left octets so_far none =
    let all : spelled_labels token ≡ so_far.labels =
    so_far.all ∙ ap (λ (more : List (List ℕ)). so_far.labels ++ more) (none_left left none)
    ∙ append-nil so_far.labels in
    ap (λ (labels : List (List ℕ)). ok_or (option_map name_wire (if_labels labels)) BadName) all
    ∙ ap (λ (b : Bool). ok_or (option_map name_wire (cond b (Some so_far.labels) None)) BadName)
    so_far.are
    ∙ ap (λ (o : List ℕ). Ok o)
    (sym (name_wire-labels so_far.labels) ∙ ap (λ (o : List ℕ). o ++ 0 ∷ []) (sym so_far.written))

-- ---- the name of a token

-- a token with symbols that is no lone dot and no lone `@`
pub record IsPlain (token : List Symbol) : Type 0 where
  pub some : 0 < length token
  pub no_root : is_lone 46 token ≡ false
  pub no_origin : is_lone 64 token ≡ false

-- its name is that of its labels
by_name-plain : (token : List Symbol) → IsPlain token
    → by_name token ≡ ok_or (if_labels (spelled_labels token)) BadName
by_name-plain token plain =
    let labels = without_final_dot (dotted_parts token) in
    ap (λ (b : Bool). ok_or (cond b (Some []) (cond (is_lone 64 token) None (if_labels labels)))
    BadName) plain.no_root
    ∙ ap (λ (b : Bool). ok_or (cond b None (if_labels labels)) BadName) plain.no_origin
    ∙ ap (λ (labels : List (List ℕ)). ok_or (if_labels labels) BadName)
    (sym (labels_of-nonempty token plain.some))

-- the name whose octets were written
pub record IsNamed (token : List Symbol) (octets : List ℕ) : Type 0 where
  pub labels : List (List ℕ)
  pub by_name : by_name token ≡ Ok labels
  pub name_in : name_in octets ≡ Ok labels

named_by : (token : List Symbol) (octets : List ℕ) (labels : List (List ℕ)) (b : Bool)
    → are_labels 0 labels ≡ b
    → by_name token ≡ ok_or (cond b (Some labels) None) BadName
    → ok_or (option_map name_wire (cond b (Some labels) None)) BadName ≡ Ok octets
    → IsNamed token octets
named_by token octets labels false are by written = absurd cc
named_by token octets labels true are by written =
    let same : name_wire labels ≡ octets = cc in
    record {
      labels = labels;
      by_name = by;
      name_in = ap name_in (sym same) ∙ name_in-name_wire labels (AreLabels-true 0 labels are);
    }

pub named : (token : List Symbol) (octets : List ℕ) → IsPlain token → wire_of token ≡ Ok octets
    → IsNamed token octets
named token octets plain written =
    named_by token octets (spelled_labels token) (are_labels 0 (spelled_labels token)) refl
    (by_name-plain token plain) written

-- that name is the one that is found in them
pub named_as : (token : List Symbol) (octets : List ℕ) (labels : List (List ℕ))
    → IsNamed token octets → name_in octets ≡ Ok labels → by_name token ≡ Ok labels
named_as token octets labels is found =
    let read = is.name_in in
    let same : is.labels ≡ labels = cc in
    is.by_name ∙ ap (λ (labels : List (List ℕ)). Ok labels) same

-- and so they are not refused
pub not_refused : (token : List Symbol) (octets : List ℕ) (error : ParseError)
    → IsNamed token octets → IsFaultOf error (name_in octets) → ⊥
not_refused token octets ShortInput is refused = let read = is.name_in in absurd cc
not_refused token octets Form is refused = let read = is.name_in in absurd cc
not_refused token octets parse_errors.NoMemory is refused = refused

unnamed_by : (labels : Option (List (List ℕ))) (fault : ScanError)
    → Answers {T = List ℕ} (λ octets. octets) (Err fault)
    (ok_or (option_map name_wire labels) BadName)
    → Answers {T = List (List ℕ)} (λ name. name) (Err fault) (ok_or labels BadName)
unnamed_by labels NoMemory refused = tt
unnamed_by None fault refused = let same : BadName ≡ fault = cc
    in ap (λ (e : ScanError). Err e) same
unnamed_by (Some labels) fault refused = absurd cc

pub unnamed : (token : List Symbol) (fault : ScanError) → IsPlain token
    → Answers {T = List ℕ} (λ octets. octets) (Err fault) (wire_of token)
    → Answers {T = List (List ℕ)} (λ name. name) (Err fault) (by_name token)
unnamed token fault plain refused =
    subst (λ (r : Result (List (List ℕ)) ScanError). Answers {T = List (List ℕ)} (λ name. name)
    (Err fault) r) (sym (by_name-plain token plain))
    (unnamed_by (if_labels (spelled_labels token)) fault refused)

-- ---- a name's text is short

-- each symbol has an octet of its own: its label's, or its label's length
symbols-within : (bound : ℕ) (symbols : List Symbol) → length symbols ≤ bound
    → length symbols ≤ length (lengths_and_labels (spelled_labels symbols))
symbols-within bound [] few = omega arith
symbols-within zero (symbol ∷ symbols) few = absurd (omega arith)
symbols-within (suc bound) (symbol ∷ symbols) few =
    let all = symbol ∷ symbols in
    let len = label_len all in
    let label = octets_of (take len all) in
    let behind = drop (len + 1) all in
    let fewer : length behind ≤ length all - (len + 1) = omega (arith, length-drop (len + 1) all) in
    let rest : length behind ≤ length (lengths_and_labels (spelled_labels behind)) =
    symbols-within bound behind (omega arith) in
    let first : length (lengths_and_labels (spelled_labels all))
    ≡ length (length label ∷ label ++ lengths_and_labels (spelled_labels behind)) =
    ap (λ (labels : List (List ℕ)). length (lengths_and_labels labels))
    (labels_of-first all (omega arith)) in
    omega (
      arith,
      first,
      rest,
      length-append label (lengths_and_labels (spelled_labels behind)),
      length-label all,
      length-drop (len + 1) all,
    )

labels-within : (labels : List (List ℕ)) → are_labels 0 labels ≡ true
    → length (lengths_and_labels labels) ≤ 254
labels-within labels are =
    let whole = ap (λ (octets : List ℕ). length octets) (name_wire-labels labels) in
    omega (
      arith,
      whole,
      length-append (lengths_and_labels labels)
          (0 ∷ []),
      length-name_wire 0 labels (omega arith) (AreLabels-true 0 labels are),
    )

long_labels : (token : List Symbol) → 254 < length token
    → are_labels 0 (spelled_labels token) ≡ false
long_labels token long = elim (cases_Bool (are_labels 0 (spelled_labels token))) [
  | inl are ↦ absurd
      (omega (
        arith,
        labels-within (spelled_labels token) are,
        symbols-within (length token) token
            (omega arith),
      ))
  | inr are ↦ are
]

-- a token of more than 254 symbols is no name text
pub by_name-long : (token : List Symbol) → IsPlain token → 254 < length token
    → by_name token ≡ Err BadName
by_name-long token plain long =
    by_name-plain token plain
    ∙ ap (λ (b : Bool). ok_or (cond b (Some (spelled_labels token)) None) BadName)
    (long_labels token long)
