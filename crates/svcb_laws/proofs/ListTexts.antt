-- Lists of items with commas between them are split into their items, and the items are read back.
use Rattle.std.proofs.Common.{◌≡◌, ◌≢◌, ℕ, ◌<◌, true, List, [], ◌∷◌, ◌++◌, map, length, Result, Ok, refl, sym, ap, ◌∙◌, arith, append_assoc, append-nil}
use Rattle.std.specs.List.{join_with_byte, AllByRecursion}
use Rattle.std.proofs.lemmas.Bool.Decides.{nat_tests}
use Rattle.svcb_spec.specs.Values.{Value, encode}
use Rattle.text_spec.specs.declared.errors.ScanError.{ScanError}
use Rattle.svcb_spec.specs.ListTexts.{◌>>=◌, comma_items, plain_item, read_items}
use Rattle.svcb_spec.specs.ValueTexts.{some_text, short_value}
use Rattle.svcb_spec.specs.ParamTexts.{value_behind}
use Rattle.svcb_spec.specs.PrintedValues.{with_items}
use Rattle.svcb_laws.specs.ParamTextLaws.{IsValueText, HasNoComma, HasNoBackslash, IsPlainItem, IsPlainList}
use Rattle.svcb_laws.proofs.BareTexts.{AreOfKey, ArePlain-key, IsBareText, bare-append, bare-plain, bare_text_of, spells-behind}
use Rattle.svcb_laws.proofs.OpaqueTexts.{short_again}
use Rattle.svcb_laws.proofs.PlainLists.{plain_item_again, some_text_again, some_list, items-split}
use Rattle.svcb_laws.proofs.ItemTexts.{is_item_octet, AreOfItem, IsItemText, ArePlain-item}

-- ---- texts with commas between them

-- the octets of texts that are joined are joined likewise
bare-join : {A : Type 0} (text octets : A → List ℕ) (items : List A)
    → AllByRecursion (λ item. IsBareText (text item) (octets item)) items
    → IsBareText (join_with_byte 44 (map text items)) (join_with_byte 44 (map octets items))
bare-join text octets [] are = bare-plain [] tt
bare-join text octets (item ∷ []) are = are.0
bare-join text octets (item ∷ next ∷ items) are =
    bare-append (text item) (octets item) (44 ∷ join_with_byte 44 (map text (next ∷ items)))
    (44 ∷ join_with_byte 44 (map octets (next ∷ items))) are.0
    (bare-append (44 ∷ []) (44 ∷ []) (join_with_byte 44 (map text (next ∷ items)))
    (join_with_byte 44 (map octets (next ∷ items)))
    (bare-plain (44 ∷ []) (refl, tt)) (bare-join text octets (next ∷ items) are.1))

-- a key and items are wholly a token, which spells what stands behind the key
pub items_again : {A : Type 0} (key : List ℕ) (text octets : A → List ℕ) (item : A)
    (items : List A) (value : Value) → AreOfKey key
    → AllByRecursion (λ item. IsBareText (text item) (octets item)) (item ∷ items)
    → value_behind key (join_with_byte 44 (map octets (item ∷ items))) ≡ Ok value
    → IsValueText (with_items key (map text (item ∷ items))) value
items_again key text octets item items value are bare spelled =
    let front = join_with_byte 44 (map text (item ∷ items)) in
    let have = join_with_byte 44 (map octets (item ∷ items)) in
    bare_text_of (key ++ 61 ∷ front) (key ++ 61 ∷ have) value
    (bare-append key key (61 ∷ front) (61 ∷ have) (bare-plain key (ArePlain-key key are))
    (bare-append (61 ∷ []) (61 ∷ []) front have (bare-plain (61 ∷ []) (refl, tt))
    (bare-join text octets (item ∷ items) bare)))
    (spells-behind key have are ∙ spelled)

-- ---- items between commas

item_octet : (c : ℕ) → is_item_octet c ≡ true → (c ≢ 44) × (c ≢ 92)
item_octet c of_item = (grind (arith, nat_tests), grind (arith, nat_tests))

AreOfItem-octets : (text : List ℕ) → AreOfItem text → HasNoComma text × HasNoBackslash text
AreOfItem-octets [] are = (tt, tt)
AreOfItem-octets (c ∷ text) are =
    let first = item_octet c are.0 in
    let rest = AreOfItem-octets text are.1 in
    ((first.0, rest.0), (first.1, rest.1))

IsItemText-plain : (item : List ℕ) → IsItemText item → IsPlainItem item
IsItemText-plain item is = let octets = AreOfItem-octets item is.1 in (is.0, octets.0, octets.1)

-- a text of an item is read as itself
pub item_again : (item : List ℕ) → IsItemText item → plain_item item ≡ Ok item
item_again item is = plain_item_again item (is.0, (AreOfItem-octets item is.1).1)

-- ---- items in turn

-- a rule reads each printed item back, behind the items before it
abbrev pub IsReadBack : {A : Type 0} → (List A → List ℕ → Result A ScanError) → (A → List ℕ)
    → List A → List A → Type 0
IsReadBack rule print before [] = Unit {0}
IsReadBack rule print before (item ∷ items) =
    (rule before (print item) ≡ Ok item) × IsReadBack rule print (before ++ item ∷ []) items

read_items_again : {A : Type 0} (rule : List A → List ℕ → Result A ScanError) (print : A → List ℕ)
    (before items : List A)
    → IsReadBack rule print before items
    → read_items rule before (map print items) ≡ Ok (before ++ items)
read_items_again rule print before [] back = ap Ok (sym (append-nil before))
read_items_again rule print before (item ∷ items) back =
    ap (λ r. r >>= λ x. read_items rule (before ++ x ∷ []) (map print items)) back.0
    ∙ read_items_again rule print (before ++ item ∷ []) items back.1
    ∙ ap Ok (append_assoc before (item ∷ []) items)

plain_items : {A : Type 0} (print : A → List ℕ) (items : List A)
    → AllByRecursion (λ item. IsItemText (print item)) items → AllByRecursion IsPlainItem (map print items)
plain_items print [] are = tt
plain_items print (item ∷ items) are =
    (IsItemText-plain (print item) are.0, plain_items print items are.1)

-- what a list of printed items is read as
pub list_again : {A : Type 0} (rule : List A → List ℕ → Result A ScanError) (print : A → List ℕ)
    (make : List A → Value) (item : A) (items : List A)
    → AllByRecursion (λ item. IsItemText (print item)) (item ∷ items)
    → IsReadBack rule print [] (item ∷ items) → length (encode (make (item ∷ items))) < 65536
    → (some_text (join_with_byte 44 (map print (item ∷ items)))
    >>= λ list. read_items rule [] (comma_items list) >>= λ xs. short_value (make xs))
    ≡ Ok (make (item ∷ items))
list_again rule print make item items are back few =
    let list = join_with_byte 44 (map print (item ∷ items)) in
    let plain : IsPlainList list (map print (item ∷ items)) =
    (omega arith, plain_items print (item ∷ items) are, refl) in
    ap (λ r. r >>= λ list. read_items rule [] (comma_items list) >>= λ xs. short_value (make xs))
    (some_text_again list (some_list list (map print (item ∷ items)) plain))
    ∙ ap (λ list. read_items rule [] list >>= λ xs. short_value (make xs))
    (items-split list (map print (item ∷ items)) plain)
    ∙ ap (λ r. r >>= λ xs. short_value (make xs))
    (read_items_again rule print [] (item ∷ items) back)
    ∙ short_again (make (item ∷ items)) few

-- the texts of plain items are bare
pub bare-items : {A : Type 0} (print : A → List ℕ) (items : List A)
    → AllByRecursion (λ item. IsItemText (print item)) items
    → AllByRecursion (λ item. IsBareText (print item) (print item)) items
bare-items print [] are = tt
bare-items print (item ∷ items) are =
    (bare-plain (print item) (ArePlain-item (print item) are.0.1), bare-items print items are.1)
