-- The text of an item, octet by octet.
use Rattle.std.proofs.Common.{◌≡◌, ℕ, false, true, List, [], ◌∷◌, ◌++◌, Option, Some, None, Result, Ok, Err, refl, sym, ap, ◌∙◌, length, arith}
use Rattle.std.specs.Prelude.{◌==◌}
use Rattle.std.proofs.lemmas.Bool.Decides.{nat_tests}
use Rattle.text_spec.specs.declared.errors.ScanError.{ScanError}
use Rattle.text_spec.specs.declared.errors.ScanError.TheVariants.{BadListEscape}
use Rattle.svcb_spec.specs.ListTexts.{ItemRead, onto_item, read_item, is_escaped_in_item}

-- octets in front of an item
abbrev pub onto_octets : List ℕ → Result ItemRead ScanError → Result ItemRead ScanError
onto_octets [] read = read
onto_octets (c ∷ octets) read = onto_item c (onto_octets octets read)

pub onto_octets-push : (octets : List ℕ) (c : ℕ) (read : Result ItemRead ScanError)
    → onto_octets (octets ++ c ∷ []) read ≡ onto_octets octets (onto_item c read)
onto_octets-push [] c read = refl
onto_octets-push (d ∷ octets) c read = ap (onto_item d) (onto_octets-push octets c read)

pub onto_octets-end : (octets : List ℕ) (rest : Option (List ℕ))
    → onto_octets octets (Ok (record { item = []; rest = rest }))
    ≡ Ok (record { item = octets; rest = rest })
onto_octets-end [] rest = refl
onto_octets-end (c ∷ octets) rest = ap (onto_item c) (onto_octets-end octets rest)

pub onto_octets-fault : (octets : List ℕ) (fault : ScanError)
    → onto_octets octets (Err fault) ≡ Err fault
onto_octets-fault [] fault = refl
onto_octets-fault (c ∷ octets) fault = ap (onto_item c) (onto_octets-fault octets fault)

-- a comma ends an item
pub read_item-comma : (c : ℕ) (text : List ℕ) → c ≡ 44
    → read_item (c ∷ text) ≡ Ok (record { item = []; rest = Some text })
read_item-comma c [] is = let comma : (c == 44) ≡ true = grind (arith, nat_tests) in rw comma refl
read_item-comma c (next ∷ text) is = let comma : (c == 44) ≡ true = grind (arith, nat_tests)
    in rw comma refl

-- an octet that stands for itself
pub read_item-plain : (c : ℕ) (text : List ℕ) → (c ≡ 44 → ⊥) → (c ≡ 92 → ⊥)
    → read_item (c ∷ text) ≡ onto_item c (read_item text)
read_item-plain c [] no_comma no_escape =
    let comma : (c == 44) ≡ false = grind (arith, nat_tests) in
    let escape : (c == 92) ≡ false = grind (arith, nat_tests) in
    rw (comma, escape) refl
read_item-plain c (next ∷ text) no_comma no_escape =
    let comma : (c == 44) ≡ false = grind (arith, nat_tests) in
    let escape : (c == 92) ≡ false = grind (arith, nat_tests) in
    rw (comma, escape) refl

-- an octet that is escaped
pub read_item-escaped : (c next : ℕ) (text : List ℕ) → c ≡ 92 → is_escaped_in_item next ≡ true
    → read_item (c ∷ next ∷ text) ≡ onto_item next (read_item text)
read_item-escaped c next text is escaped =
    let comma : (c == 44) ≡ false = grind (arith, nat_tests) in
    let escape : (c == 92) ≡ true = grind (arith, nat_tests) in
    rw (comma, escape, escaped) refl

-- a backslash that is followed by nothing else
pub read_item-bad : (c next : ℕ) (text : List ℕ) → c ≡ 92 → is_escaped_in_item next ≡ false
    → read_item (c ∷ next ∷ text) ≡ Err BadListEscape
read_item-bad c next text is escaped =
    let comma : (c == 44) ≡ false = grind (arith, nat_tests) in
    let escape : (c == 92) ≡ true = grind (arith, nat_tests) in
    rw (comma, escape, escaped) refl

pub read_item-open : (c : ℕ) → c ≡ 92 → read_item (c ∷ []) ≡ Err BadListEscape
read_item-open c is =
    let comma : (c == 44) ≡ false = grind (arith, nat_tests) in
    let escape : (c == 92) ≡ true = grind (arith, nat_tests) in
    rw (comma, escape) refl

-- ---- what was read of a text, and what is left of it

nothing : (left : List ℕ) → length left ≡ 0
    → read_item left ≡ Ok (record { item = []; rest = None })
nothing [] none = refl
nothing (c ∷ left) none = absurd (omega arith)

module _ (text left item : List ℕ) (so_far : read_item text ≡ onto_octets item (read_item left))
  where
    pub item_ends : length left ≡ 0 → read_item text ≡ Ok (record { item = item; rest = None })
    item_ends none = so_far ∙ ap (onto_octets item) (nothing left none) ∙ onto_octets-end item None

    module _ (c : ℕ) (others : List ℕ) (front : left ≡ c ∷ others) where
      pub item_ended : c ≡ 44 → read_item text ≡ Ok (record { item = item; rest = Some others })
      item_ended is =
          so_far ∙ ap (onto_octets item) (ap read_item front ∙ read_item-comma c others is)
          ∙ onto_octets-end item (Some others)

      pub item_longer : (octet : ℕ) (behind : List ℕ)
          → read_item (c ∷ others) ≡ onto_item octet (read_item behind)
          → read_item text ≡ onto_octets (item ++ octet ∷ []) (read_item behind)
      item_longer octet behind reads =
          so_far ∙ ap (onto_octets item) (ap read_item front ∙ reads)
          ∙ sym (onto_octets-push item octet (read_item behind))

      pub item_refused : (fault : ScanError) → read_item (c ∷ others) ≡ Err fault
          → read_item text ≡ Err fault
      item_refused fault refused = so_far ∙ ap (onto_octets item) (ap read_item front ∙ refused)
          ∙ onto_octets-fault item fault
