-- Texts whose symbols each stand bare, and what such a text spells by its key and what stands
-- behind the `=`.
use Rattle.std.proofs.Common.{◌≡◌, ℕ, suc, ◌<◌, true, false, cond, not, List, [], ◌∷◌, ◌++◌, map, length, drop, Ok, Err, refl, sym, ap, ◌∙◌, subst, arith, add-one, length-append}
use Rattle.std.specs.Prelude.{◌==◌}
use Rattle.std.specs.List.{flat_map, list_all}
use Rattle.std.proofs.lemmas.Bool.{and_parts}
use Rattle.std.proofs.lemmas.Bool.Decides.{nat_tests}
use Rattle.std.proofs.lemmas.Grind.{flat_map-append}
use Rattle.std.proofs.lemmas.List.{map-append}
use Rattle.std.proofs.lemmas.List.Sums.{take_while-cons}
use Rattle.name_spec.specs.Printed.{Written, Plain, octet_text, is_special, printed_octets}
use Rattle.name_spec.specs.AddressLaws.{AreOctets}
use Rattle.svcb_spec.specs.Values.{Value}
use Rattle.text_spec.specs.declared.errors.ScanError.TheVariants.{EmptyParam, BadKeyChar}
use Rattle.text_spec.specs.declared.lexeme.Symbol.{Symbol}
use Rattle.text_spec.specs.Pieces.{symbol_of, is_bare, IsTokenText}
use Rattle.text_spec.specs.Scanning.{octets_of}
use Rattle.text_spec.proofs.PrintedTexts.{AreBare, AreBare-append, AreBare-printed, token_text-bare, written_as, written-printed, octets_of-printed}
use Rattle.text_spec.proofs.PlainTexts.{ArePlain, octets_of-plain}
use Rattle.svcb_spec.specs.ParamTexts.{is_key_octet, key_text, value_text, value_behind, spells}
use Rattle.svcb_laws.specs.ParamTextLaws.{IsValueText}

-- ---- texts of bare symbols

-- the text's symbols stand bare and have these octets
abbrev pub IsBareText : List ℕ → List ℕ → Type 0
IsBareText text octets =
    (symbols : List Written) × AreBare symbols × (text ≡ flat_map octet_text symbols)
    × (octets_of (map symbol_of symbols) ≡ octets)

pub bare-append : (t o u p : List ℕ) → IsBareText t o → IsBareText u p
    → IsBareText (t ++ u) (o ++ p)
bare-append t o u p (front, are, is, have) (behind, are', is', have') = (
  front ++ behind,
  AreBare-append front behind are are',
  ap (λ (x : List ℕ). x ++ u) is ∙ ap (λ (x : List ℕ). flat_map octet_text front ++ x) is'
      ∙ sym (flat_map-append octet_text front behind),
  ap (λ (x : List Symbol). octets_of x) (map-append symbol_of front behind)
      ∙ map-append (λ (s : Symbol). s.octet) (map symbol_of front) (map symbol_of behind)
      ∙ ap (λ (x : List ℕ). x ++ octets_of (map symbol_of behind)) have
      ∙ ap (λ (x : List ℕ). o ++ x) have',
)

written-plain : (text : List ℕ) → flat_map octet_text (map Plain text) ≡ text
written-plain [] = refl
written-plain (c ∷ text) = ap (λ (t : List ℕ). c ∷ t) (written-plain text)

AreBare-plain : (text : List ℕ) → ArePlain text → AreBare (map Plain text)
AreBare-plain [] are = tt
AreBare-plain (c ∷ text) are = (are.0, AreBare-plain text are.1)

-- octets that stand for themselves
pub bare-plain : (text : List ℕ) → ArePlain text → IsBareText text text
bare-plain text are =
    (map Plain text, AreBare-plain text are, sym (written-plain text), octets_of-plain text)

-- printed octets
pub bare-octets : (octets : List ℕ) → AreOctets octets → IsBareText (printed_octets octets) octets
bare-octets octets are = (
  written_as is_special octets,
  AreBare-printed octets are,
  sym
      (written-printed is_special octets),
  octets_of-printed is_special octets,
)

-- such a text is wholly a token
pub bare_text_of : (text octets : List ℕ) (value : Value) → IsBareText text octets
    → spells octets ≡ Ok value → IsValueText text value
bare_text_of text octets value ([], are, is, have) spelled = absurd (cc (ap spells have ∙ spelled))
bare_text_of text octets value (symbol ∷ symbols, are, is, have) spelled = (
  map symbol_of (symbol ∷ symbols),
  subst (λ (t : List ℕ). IsTokenText t (map symbol_of (symbol ∷ symbols))) (sym is)
      (token_text-bare symbol symbols are),
  ap spells have ∙ spelled,
)

-- ---- the key in a text

-- octets of a key
abbrev pub AreOfKey : List ℕ → Type 0
AreOfKey key = list_all is_key_octet key ≡ true

bare-key_octet : (c : ℕ) → is_key_octet c ≡ true → is_bare c ≡ true
bare-key_octet c of_key = grind (arith, nat_tests)

no_equals : (c : ℕ) → is_key_octet c ≡ true → (c == 61) ≡ false
no_equals c of_key = grind (arith, nat_tests)

pub ArePlain-key : (key : List ℕ) → AreOfKey key → ArePlain key
ArePlain-key [] are = tt
ArePlain-key (c ∷ key) are =
    let both = and_parts (is_key_octet c) (list_all is_key_octet key) are in
    (bare-key_octet c both.0, ArePlain-key key both.1)

key_text-behind : (key text : List ℕ) → AreOfKey key → key_text (key ++ 61 ∷ text) ≡ key
key_text-behind [] text are = refl
key_text-behind (c ∷ key) text are =
    let both = and_parts (is_key_octet c) (list_all is_key_octet key) are in
    take_while-cons (λ c. not (c == 61)) c (key ++ 61 ∷ text)
    ∙ ap (λ b. cond (not b) (c ∷ key_text (key ++ 61 ∷ text)) []) (no_equals c both.0)
    ∙ ap (λ (k : List ℕ). c ∷ k) (key_text-behind key text both.1)

key_text-key : (key : List ℕ) → AreOfKey key → key_text key ≡ key
key_text-key [] are = refl
key_text-key (c ∷ key) are =
    let both = and_parts (is_key_octet c) (list_all is_key_octet key) are in
    take_while-cons (λ c. not (c == 61)) c key
    ∙ ap (λ b. cond (not b) (c ∷ key_text key) []) (no_equals c both.0)
    ∙ ap (λ (k : List ℕ). c ∷ k) (key_text-key key both.1)

drop-behind : (key text : List ℕ) → drop (suc (length key)) (key ++ 61 ∷ text) ≡ text
drop-behind [] text = refl
drop-behind (c ∷ key) text = drop-behind key text

drop-key : (key : List ℕ) → drop (suc (length key)) key ≡ []
drop-key [] = refl
drop-key (c ∷ key) = drop-key key

spells_by : (token key text : List ℕ) → 0 < length token → AreOfKey key → key_text token ≡ key
    → drop (suc (length key)) token ≡ text
    → spells token ≡ value_behind key text
spells_by token key text some are front behind =
    let full : (length token == 0) ≡ false = grind (arith, nat_tests) in
    let left : value_text token ≡ text =
    ap (λ n. drop n token) (add-one (length (key_text token)))
    ∙ ap (λ (k : List ℕ). drop (suc (length k)) token) front ∙ behind in
    ap (λ b. cond b (Err EmptyParam)
    (cond (not (list_all is_key_octet (key_text token))) (Err BadKeyChar)
    (value_behind (key_text token) (value_text token)))) full
    ∙ ap (λ (k : List ℕ). cond (not (list_all is_key_octet k)) (Err BadKeyChar)
    (value_behind k (value_text token))) front
    ∙ ap (λ b. cond (not b) (Err BadKeyChar) (value_behind key (value_text token))) are
    ∙ ap (value_behind key) left

some_behind : (key text : List ℕ) → 0 < length (key ++ 61 ∷ text)
some_behind key text = omega (arith, length-append key (61 ∷ text))

-- a key and a text behind it
pub spells-behind : (key text : List ℕ) → AreOfKey key
    → spells (key ++ 61 ∷ text) ≡ value_behind key text
spells-behind key text are =
    spells_by (key ++ 61 ∷ text) key text (some_behind key text) are (key_text-behind key text are)
    (drop-behind key text)

-- a key alone
pub spells-key : (key : List ℕ) → 0 < length key → AreOfKey key → spells key ≡ value_behind key []
spells-key key some are = spells_by key key [] some are (key_text-key key are) (drop-key key)
