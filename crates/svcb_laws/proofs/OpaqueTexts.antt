-- The text of any octets under a key is read back.
use Rattle.std.proofs.Common.{◌≡◌, ℕ, ◌<◌, ◌≤◌, true, false, cond, List, [], ◌∷◌, ◌++◌, length, Option, Some, None, Ok, Err, codes, inl, inr, refl, sym, ap, ◌∙◌, subst, arith}
use Rattle.std.specs.Prelude.{◌==◌, nat_lt, unwrap_or}
use Rattle.std.specs.List.{list_all}
use Rattle.std.specs.Fmt.{decimal}
use Rattle.std.specs.Option.{ok_or}
use Rattle.std.proofs.lemmas.Bool.{cases_eq, cases_lt, and_from}
use Rattle.std.proofs.lemmas.Bool.Decides.{nat_tests}
use Rattle.std.specs.Str.Parse.{AllDigits}
use Rattle.std.proofs.lemmas.Fmt.{decimal_is_IsNumeral}
use Rattle.std.proofs.lemmas.Str.Parse.{digit_from_value}
use Rattle.name_spec.specs.Printed.{Plain, Escaped, Decimal, printed_octets}
use Rattle.name_spec.specs.AddressLaws.{AreOctets}
use Rattle.registry.specs.Keys.{parameter_keys}
use Rattle.registry.specs.Tables.{mnemonic_of}
use Rattle.registry.specs.Texts.{generic_key}
use Rattle.registry.specs.TextLaws.{spelled_number-decimal}
use Rattle.svcb_spec.specs.Values.{Value, Unknown, encode}
use Rattle.text_spec.specs.declared.errors.ScanError.TheVariants.{UnknownKey, LongValue}
use Rattle.svcb_spec.specs.ListTexts.{◌>>=◌}
use Rattle.svcb_spec.specs.ValueTexts.{short_value, opaque_value}
use Rattle.svcb_spec.specs.ParamTexts.{is_key_octet, value_behind}
use Rattle.svcb_spec.specs.PrintedValues.{key_name, opaque_key_name, with_text, opaque_text}
use Rattle.svcb_laws.specs.ParamTextLaws.{IsValueText}
use Rattle.svcb_laws.proofs.BareTexts.{AreOfKey, ArePlain-key, IsBareText, bare-append, bare-plain, bare-octets, bare_text_of, spells-behind, spells-key}

-- ---- values of few octets

pub short_again : (value : Value) → length (encode value) < 65536 → short_value value ≡ Ok value
short_again value few =
    let short : nat_lt 65535 (length (encode value)) ≡ false = grind (arith, nat_tests) in
    ap (λ b. cond b (Err LongValue) (Ok value)) short

-- ---- keys

digit-of_key : (c : ℕ) → (48 ≤ c) × (c ≤ 57) → is_key_octet c ≡ true
digit-of_key c digit = grind (arith, nat_tests)

digits-of_key : (digits : List ℕ) → AllDigits 10 digits → AreOfKey digits
digits-of_key [] are = refl
digits-of_key (c ∷ digits) are =
    and_from (is_key_octet c) (list_all is_key_octet digits)
    (digit-of_key c (digit_from_value c are.0)) (digits-of_key digits are.1)

-- the text is that of a key under which any octets stand
record IsOpaqueName (key : ℕ) (name : List ℕ) : Type 0 where
  some : 0 < length name
  of_key : AreOfKey name
  reads : (text : List ℕ) → value_behind name text ≡ opaque_value key text

-- `key` and the number
generic_name : (key : ℕ) → key < 65536 → IsOpaqueName key (codes "key" ++ decimal key)
generic_name key small =
    let is = decimal_is_IsNumeral key (omega arith) in
    let found : generic_key (codes "key" ++ decimal key) ≡ Some key =
    spelled_number-decimal 65536 key small (omega arith) in
    record {
      some = omega arith;
      of_key = digits-of_key (decimal key) is.0.1;
      reads = λ text. ap (λ (o : Option ℕ). ok_or o UnknownKey >>= λ n. opaque_value n text) found;
    }

no_mnemonic : (key : ℕ) → 12 < key → mnemonic_of parameter_keys key ≡ None
no_mnemonic key above =
    let e0 : (0 == key) ≡ false = grind (arith, nat_tests) in
    let e1 : (1 == key) ≡ false = grind (arith, nat_tests) in
    let e2 : (2 == key) ≡ false = grind (arith, nat_tests) in
    let e3 : (3 == key) ≡ false = grind (arith, nat_tests) in
    let e4 : (4 == key) ≡ false = grind (arith, nat_tests) in
    let e5 : (5 == key) ≡ false = grind (arith, nat_tests) in
    let e6 : (6 == key) ≡ false = grind (arith, nat_tests) in
    let e7 : (7 == key) ≡ false = grind (arith, nat_tests) in
    let e8 : (8 == key) ≡ false = grind (arith, nat_tests) in
    let e9 : (9 == key) ≡ false = grind (arith, nat_tests) in
    let e10 : (10 == key) ≡ false = grind (arith, nat_tests) in
    let e11 : (11 == key) ≡ false = grind (arith, nat_tests) in
    let e12 : (12 == key) ≡ false = grind (arith, nat_tests) in
    rw (e0, e1, e2, e3, e4, e5, e6, e7, e8, e9, e10, e11, e12) refl

-- the name of a key without a type
key_name-opaque : (key : ℕ) → key < 65536 → 9 < key → IsOpaqueName key (key_name key)
key_name-opaque key small above = elim (cases_lt 12 key) [
  | inl more ↦ subst
      (λ (o : Option (List ℕ)). IsOpaqueName key (unwrap_or o (codes "key" ++ decimal key)))
      (sym (no_mnemonic key more)) (generic_name key small)
  | inr most ↦ elim (cases_eq 10 key) [
    | inl ten ↦ subst (λ (k : ℕ). IsOpaqueName k (key_name k)) ten
        (record { some = omega arith; of_key = refl; reads = λ text. refl })
    | inr not_ten ↦ elim (cases_eq 11 key) [
      | inl eleven ↦ subst (λ (k : ℕ). IsOpaqueName k (key_name k)) eleven
          (record { some = omega arith; of_key = refl; reads = λ text. refl })
      | inr not_eleven ↦
          let twelve : 12 ≡ key = omega arith in
          subst (λ (k : ℕ). IsOpaqueName k (key_name k)) twelve
          (record { some = omega arith; of_key = refl; reads = λ text. refl })
    ]
  ]
]

opaque_name : (key : ℕ) → key < 65536 → IsOpaqueName key (opaque_key_name key)
opaque_name key small = elim (cases_lt key 10) [
  | inl few ↦
      let typed : nat_lt key 10 ≡ true = grind (arith, nat_tests) in
      subst (λ b. IsOpaqueName key (cond b (codes "key" ++ decimal key) (key_name key)))
      (sym typed) (generic_name key small)
  | inr many ↦
      let other : nat_lt key 10 ≡ false = grind (arith, nat_tests) in
      subst (λ b. IsOpaqueName key (cond b (codes "key" ++ decimal key) (key_name key)))
      (sym other) (key_name-opaque key small (omega arith))
]

-- ---- a key with a text

-- a key and a text, or the key alone where there is none
pub with_text_again : (key text octets : List ℕ) (value : Value) → 0 < length key → AreOfKey key
    → IsBareText text octets
    → value_behind key octets ≡ Ok value → IsValueText (with_text key text) value
with_text_again key [] octets value some are bare spelled =
    bare_text_of key key value (bare-plain key (ArePlain-key key are))
    (spells-key key some are ∙ ap (value_behind key) (no_octets octets bare) ∙ spelled)
  where
    no_octets : (octets : List ℕ) → IsBareText [] octets → [] ≡ octets
    no_octets octets ([], are, is, have) = have
    no_octets octets (Plain c ∷ symbols, are, is, have) = absurd cc
    no_octets octets (Escaped c ∷ symbols, are, is, have) = absurd cc
    no_octets octets (Decimal c ∷ symbols, are, is, have) = absurd cc
with_text_again key (c ∷ text) octets value some are bare spelled =
    let full : (length (c ∷ text) == 0) ≡ false = grind (arith, nat_tests) in
    subst (λ b. IsValueText (cond b key (key ++ 61 ∷ c ∷ text)) value) (sym full)
    (bare_text_of (key ++ 61 ∷ c ∷ text) (key ++ 61 ∷ octets) value
    (bare-append key key (61 ∷ c ∷ text) (61 ∷ octets) (bare-plain key (ArePlain-key key are))
    (bare-append (61 ∷ []) (61 ∷ []) (c ∷ text) octets (bare-plain (61 ∷ []) (refl, tt)) bare))
    (spells-behind key octets are ∙ spelled))

-- the text of any octets is read back
pub opaque_again : (key : ℕ) (octets : List ℕ) → key < 65536 → AreOctets octets
    → length octets < 65536
    → IsValueText (opaque_text key octets) (Unknown key octets)
opaque_again key octets small are few =
    let name = opaque_name key small in
    with_text_again (opaque_key_name key) (printed_octets octets) octets
    (Unknown key octets) name.some name.of_key (bare-octets octets are)
    (name.reads octets ∙ short_again (Unknown key octets) few)
