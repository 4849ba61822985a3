-- Lists whose items have no escapes: such a text is read as exactly the things that its items
-- spell.
use Rattle.std.proofs.Common.{◌≡◌, ◌≢◌, ℕ, ◌<◌, true, false, cond, ◌||◌, List, [], ◌∷◌, ◌++◌, map, length, Option, Some, None, Result, Ok, Err, refl, sym, ap, subst, ◌∙◌, arith, append_assoc, append-nil, length-append}
use Rattle.std.specs.Prelude.{◌==◌, ◌↔◌, nat_lt}
use Rattle.std.specs.List.{list_any, join_with_byte, AllByRecursion}
use Rattle.std.specs.Option.{ok_or}
use Rattle.std.proofs.lemmas.Bool.{or_parts}
use Rattle.std.proofs.lemmas.Bool.Decides.{nat_tests}
use Rattle.svcb_spec.specs.Values.{Value, encode}
use Rattle.text_spec.specs.declared.errors.ScanError.{ScanError}
use Rattle.text_spec.specs.declared.errors.ScanError.TheVariants.{BadListEscape, EmptyItem, LongValue}
use Rattle.svcb_spec.specs.ListTexts.{◌>>=◌, comma_items, plain_item, read_items}
use Rattle.svcb_spec.specs.ValueTexts.{some_text, short_value}
use Rattle.svcb_laws.specs.ParamTextLaws.{HasNoComma, HasNoBackslash, IsPlainItem, IsPlainList, IsListOf, IsShort}
use Rattle.svcb_laws.proofs.Answers.{before_ok}
use Rattle.svcb_laws.proofs.OpaqueTexts.{short_again}
use Rattle.svcb_laws.proofs.CommaLists.{comma_items_exact}

-- ---- an item

-- what an item has besides that it has no comma
abbrev pub IsUnescaped : List ℕ → Type 0
IsUnescaped item = (0 < length item) × HasNoBackslash item

not_backslash : (c : ℕ) → c ≢ 92 → (c == 92) ≡ false
not_backslash c other = grind (arith, nat_tests)

other_octet : (c : ℕ) → (c == 92) ≡ false → c ≢ 92
other_octet c other = grind (arith, nat_tests)

no_escape : (item : List ℕ) → HasNoBackslash item → list_any (λ c. c == 92) item ≡ false
no_escape [] none = refl
no_escape (c ∷ item) none = ap (λ b. b || list_any (λ c. c == 92) item) (not_backslash c none.0)
    ∙ no_escape item none.1

no_backslash : (item : List ℕ) → list_any (λ c. c == 92) item ≡ false → HasNoBackslash item
no_backslash [] none = tt
no_backslash (c ∷ item) none =
    let parts = or_parts (c == 92) (list_any (λ c. c == 92) item) none in
    (other_octet c parts.0, no_backslash item parts.1)

-- an item in which nothing is escaped is itself
pub plain_item_again : (item : List ℕ) → IsUnescaped item → plain_item item ≡ Ok item
plain_item_again item is =
    let some : 0 < length item = is.0 in
    let full : (length item == 0) ≡ false = grind (arith, nat_tests) in
    ap (λ b. cond b (Err BadListEscape) (cond (length item == 0) (Err EmptyItem) (Ok item)))
    (no_escape item is.1)
    ∙ ap (λ b. cond b (Err EmptyItem) (Ok item)) full

plain_item-ok : (item text : List ℕ) → plain_item item ≡ Ok text → (item ≡ text) × IsUnescaped item
plain_item-ok item text =
    elim (list_any (λ c. c == 92) item) as (λ b. list_any (λ c. c == 92) item ≡ b
    → cond b (Err BadListEscape) (cond (length item == 0) (Err EmptyItem) (Ok item)) ≡ Ok text
    → (item ≡ text) × IsUnescaped item) [
      | true ↦ λ escape is. absurd cc
      | false ↦ λ none. elim (length item == 0) as
          (λ b. (length item == 0) ≡ b → cond b (Err EmptyItem) (Ok item) ≡ Ok text
          → (item ≡ text) × IsUnescaped item) [
            | true ↦ λ empty is. absurd cc
            | false ↦ λ some is. (cc, (grind (arith, nat_tests), no_backslash item none))
          ] refl
    ] refl

-- what is read behind the test of an item
pub behind_plain : {A : Type 0} (item : List ℕ) (next : List ℕ → Result A ScanError) (x : A)
    → (plain_item item >>= next) ≡ Ok x → IsUnescaped item × (next item ≡ Ok x)
behind_plain item next x is =
    let text = before_ok (plain_item item) next x is in
    let plain = plain_item-ok item text.0 text.1 in
    (plain.1, ap next plain.0 ∙ text.2)

pub ok_or-ok : {A : Type 0} (option : Option A) (fault : ScanError) (x : A)
    → ok_or option fault ≡ Ok x → option ≡ Some x
ok_or-ok (Some y) fault x is = let same : y ≡ x = cc in ap Some same
ok_or-ok None fault x is = absurd cc

-- ---- items in turn

-- each is new to those before it
abbrev pub AllNew : {A : Type 0} → (List A → A → Type 0) → List A → List A → Type 0
AllNew New before [] = Unit {0}
AllNew New before (x ∷ xs) = New before x × AllNew New (before ++ x ∷ []) xs

pub Each-map : {A : Type 0} (P Q : A → Type 0) (items : List A) → ((item : A) → P item → Q item)
    → AllByRecursion P items → AllByRecursion Q items
Each-map P Q [] f are = tt
Each-map P Q (item ∷ items) f are = (f item are.0, Each-map P Q items f are.1)

both_plain : (items : List (List ℕ)) → AllByRecursion HasNoComma items → AllByRecursion IsUnescaped items
    → AllByRecursion IsPlainItem items
both_plain [] none are = tt
both_plain (item ∷ items) none are = ((are.0.0, none.0, are.0.1), both_plain items none.1 are.1)

-- ---- a text

pub some_text_again : (text : List ℕ) → 0 < length text → some_text text ≡ Ok text
some_text_again [] some = absurd (omega arith)
some_text_again (c ∷ text) some = refl

some_text-ok : (text list : List ℕ) → some_text text ≡ Ok list → (text ≡ list) × (0 < length text)
some_text-ok [] list is = absurd cc
some_text-ok (c ∷ text) list is = (cc, omega arith)

pub behind_text : {A : Type 0} (text : List ℕ) (next : List ℕ → Result A ScanError) (x : A)
    → (some_text text >>= next) ≡ Ok x → (0 < length text) × (next text ≡ Ok x)
behind_text text next x is =
    let list = before_ok (some_text text) next x is in
    let some = some_text-ok text list.0 list.1 in
    (some.1, ap next some.0 ∙ list.2)

pub short_value-ok : (made value : Value) → short_value made ≡ Ok value → IsShort made value
short_value-ok made value =
    elim (nat_lt 65535 (length (encode made))) as (λ b. nat_lt 65535 (length (encode made)) ≡ b
    → cond b (Err LongValue) (Ok made) ≡ Ok value → IsShort made value) [
      | true ↦ λ long is. absurd cc
      | false ↦ λ short is. (cc, grind (arith, nat_tests))
    ] refl

pub short_value-again : (made value : Value) → IsShort made value → short_value made ≡ Ok value
short_value-again made value is = short_again made is.1 ∙ ap Ok (sym is.0)

pub some-join : (item : List ℕ) (items : List (List ℕ)) → 0 < length item
    → 0 < length (join_with_byte 44 (item ∷ items))
some-join item [] some = some
some-join item (next ∷ items) some =
    omega (arith, length-append item (44 ∷ join_with_byte 44 (next ∷ items)))

pub some_list : (text : List ℕ) (items : List (List ℕ)) → IsPlainList text items → 0 < length text
some_list text [] is = absurd (omega (arith, is.0))
some_list text (item ∷ items) is =
    subst (λ (t : List ℕ). 0 < length t) (sym is.2) (some-join item items is.1.0.0)

some_items : (text : List ℕ) (items : List (List ℕ)) → 0 < length text
    → text ≡ join_with_byte 44 items → 0 < length items
some_items text [] some joined = absurd (omega (arith, ap length joined))
some_items text (item ∷ items) some joined = omega arith

-- a text of these items is split into them
pub items-split : (text : List ℕ) (items : List (List ℕ)) → IsPlainList text items
    → comma_items text ≡ items
items-split text items is =
    (comma_items_exact text items).1 (
      Each-map IsPlainItem HasNoComma items (λ item plain. plain.1) is.1,
      is.2,
      λ some.
          some_list text items is,
    )

-- what is split into items that have no escapes is a text of these items
list-split : (text : List ℕ) → 0 < length text → AllByRecursion IsUnescaped (comma_items text)
    → IsPlainList text (comma_items text)
list-split text some are =
    let split = (comma_items_exact text (comma_items text)).0 refl in (
      some_items text (comma_items text) some split.1,
      both_plain
          (comma_items text) split.0 are,
      split.1,
    )

-- ---- by a rule that reads an item which has no escapes, where it is new to what was read before

module _ {A : Type 0} (rule : List A → List ℕ → Result A ScanError) (reads : List ℕ → Option A)
    (New : List A → A → Type 0) (exact : (before : List A) (item : List ℕ) (x : A)
    → (rule before item ≡ Ok x) ↔ (IsUnescaped item × (reads item ≡ Some x) × New before x)) where
  read_items-ok : (before : List A) (items : List (List ℕ)) (all : List A)
      → read_items rule before items ≡ Ok all
      → (xs : List A) × (all ≡ before ++ xs) × AllByRecursion IsUnescaped items
      × (map reads items ≡ map Some xs) × AllNew New before xs
  read_items-ok before [] all is = let same : before ≡ all = cc
      in ([], sym same ∙ sym (append-nil before), tt, refl, tt)
  read_items-ok before (item ∷ items) all is =
      let first = before_ok (rule before item) (λ x. read_items rule (before ++ x ∷ []) items) all
      is in
      let known = (exact before item first.0).0 first.1 in
      let rest = read_items-ok (before ++ first.0 ∷ []) items all first.2 in (
        first.0 ∷ rest.0,
        rest.1 ∙ append_assoc before (first.0 ∷ []) rest.0,
        (known.0, rest.2),
        cc (known.1, rest.3),
        (known.2, rest.4),
      )

  read_items-from : (before : List A) (items : List (List ℕ)) (xs : List A)
      → AllByRecursion IsUnescaped items → map reads items ≡ map Some xs → AllNew New before xs
      → read_items rule before items ≡ Ok (before ++ xs)
  read_items-from before [] [] are read new = ap Ok (sym (append-nil before))
  read_items-from before [] (x ∷ xs) are read new = absurd cc
  read_items-from before (item ∷ items) [] are read new = absurd cc
  read_items-from before (item ∷ items) (x ∷ xs) are read new =
      let first : reads item ≡ Some x = cc in
      let rest : map reads items ≡ map Some xs = cc in
      ap (λ r. r >>= λ y. read_items rule (before ++ y ∷ []) items)
      ((exact before item x).1 (are.0, first, new.0))
      ∙ read_items-from (before ++ x ∷ []) items xs are.1 rest new.1
      ∙ ap Ok (append_assoc before (x ∷ []) xs)

  -- a text spells exactly the values that are made of what its items spell
  pub list_exact : (make : List A → Value) (text : List ℕ) (value : Value)
      → ((some_text text >>= λ list. read_items rule [] (comma_items list)
      >>= λ xs. short_value (make xs)) ≡ Ok value)
      ↔ ((xs : List A) × IsListOf reads text xs × AllNew New [] xs × IsShort (make xs) value)
  list_exact make text value = (
    λ is.
        let some = behind_text text
        (λ list. read_items rule [] (comma_items list) >>= λ xs. short_value (make xs)) value
        is in
        let all = before_ok (read_items rule [] (comma_items text))
        (λ xs. short_value (make xs)) value some.1 in
        let known = read_items-ok [] (comma_items text) all.0 all.1 in (
          known.0,
          (comma_items text, list-split text some.0 known.2, known.3),
          known.4,
          short_value-ok (make known.0) value
              (ap (λ xs. short_value (make xs)) (sym known.1) ∙ all.2),
        ),
    λ is.
        let (xs, (items, plain, read), new, short) = is in
        ap (λ r. r >>= λ list. read_items rule [] (comma_items list)
        >>= λ xs. short_value (make xs)) (some_text_again text (some_list text items plain))
        ∙ ap (λ list. read_items rule [] list >>= λ xs. short_value (make xs))
        (items-split text items plain)
        ∙ ap (λ r. r >>= λ xs. short_value (make xs))
        (read_items-from [] items xs
        (Each-map IsPlainItem IsUnescaped items (λ item is. (is.0, is.2)) plain.1) read new)
        ∙ short_value-again (make xs) value short,
  )
