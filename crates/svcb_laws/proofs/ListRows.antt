-- What a text spells under the key of a list, whole: which values, and of which texts.
use Rattle.std.proofs.Common.{◌≡◌, ℕ, ◌^◌, ◌<◌, true, false, cond, List, [], ◌∷◌, ◌++◌, Option, Some, Ok, Err, refl, sym, ap, subst, ◌∙◌, arith}
use Rattle.std.specs.Prelude.{◌==◌, ◌↔◌}
use Rattle.std.specs.Option.{ok_or}
use Rattle.std.proofs.lemmas.Bool.Decides.{nat_tests}
use Rattle.std.specs.List.{AllByRecursion}
use Rattle.name_spec.specs.Addresses.{ipv4_of, ipv6_of}
use Rattle.registry.specs.Keys.{parameter_keys}
use Rattle.registry.specs.Texts.{spelled_key, spelled_number}
use Rattle.svcb_spec.specs.Values.{Value, Mandatory, Alpn, Ipv4Hint, Ipv6Hint, TlsSupportedGroups}
use Rattle.text_spec.specs.declared.errors.ScanError.TheVariants.{UnknownKey, BadNumber, BadAddress, KeyZeroInMandatory}
use Rattle.svcb_spec.specs.ListTexts.{◌>>=◌, comma_items, read_items}
use Rattle.svcb_spec.specs.ValueTexts.{new_item, other_key, mandatory_item, group_item, address_item, in_ascending_order, some_text, protocols_of, short_value}
use Rattle.svcb_laws.specs.ParamTextLaws.{IsListOf, IsShort, MandatoryExact, AlpnValueExact, HintsExact, GroupsExact}
use Rattle.svcb_laws.proofs.Answers.{before_ok}
use Rattle.svcb_laws.proofs.NumberLists.{is_in, IsNew, new_again, new_item-ok, all_new-distinct, distinct-all_new}
use Rattle.svcb_laws.proofs.PlainLists.{IsUnescaped, AllNew, plain_item_again, behind_plain, ok_or-ok, some_text_again, behind_text, short_value-ok, short_value-again, list_exact}
use Rattle.svcb_laws.proofs.ProtocolLists.{some_protocols, alpn_exact}

-- ---- addresses

-- an address is new wherever it stands
abbrev IsAny : List (List ℕ) → List ℕ → Type 0
IsAny before address = Unit {0}

any_new : (before addresses : List (List ℕ)) → AllNew IsAny before addresses
any_new before [] = tt
any_new before (address ∷ addresses) = (tt, any_new (before ++ address ∷ []) addresses)

address_item-exact : (address : List ℕ → Option (List ℕ)) (before : List (List ℕ)) (item x : List ℕ)
    → (address_item address before item ≡ Ok x)
    ↔ (IsUnescaped item × (address item ≡ Some x) × IsAny before x)
address_item-exact address before item x = (
  λ is.
      let plain = behind_plain item (λ text. ok_or (address text) BadAddress) x is in
      (plain.0, ok_or-ok (address item) BadAddress x plain.1, tt),
  λ are.
      ap (λ r. r >>= λ text. ok_or (address text) BadAddress) (plain_item_again item are.0)
      ∙ ap (λ (o : Option (List ℕ)). ok_or o BadAddress) are.1,
)

hint_exact : (address : List ℕ → Option (List ℕ)) (make : List (List ℕ) → Value) (text : List ℕ)
    (value : Value)
    → ((some_text text >>= λ list. read_items (address_item address) [] (comma_items list)
    >>= λ xs. short_value (make xs)) ≡ Ok value)
    ↔ ((addresses : List (List ℕ)) × IsListOf address text addresses
    × IsShort (make addresses) value)
hint_exact address make text value =
    let exact = list_exact (address_item address) address IsAny
    (address_item-exact address) make text value in (
      λ is. let (addresses, list, new, short) = exact.0 is in (addresses, list, short),
      λ are. let (addresses, list, short) =
          are in exact.1 (addresses, list, any_new [] addresses, short),
    )

pub hints_exact : HintsExact
hints_exact = (hint_exact ipv4_of Ipv4Hint, hint_exact ipv6_of Ipv6Hint)

-- ---- numbers

abbrev IsAnyNumber : ℕ → Type 0
IsAnyNumber n = Unit {0}

each_number : (numbers : List ℕ) → AllByRecursion IsAnyNumber numbers
each_number [] = tt
each_number (n ∷ numbers) = (tt, each_number numbers)

group_item-exact : (before : List ℕ) (item : List ℕ) (n : ℕ)
    → (group_item before item ≡ Ok n)
    ↔ (IsUnescaped item × (spelled_number (2 ^ 16) item ≡ Some n) × IsNew IsAnyNumber before n)
group_item-exact before item n = (
  λ is.
      let plain = behind_plain item
      (λ text. ok_or (spelled_number (2 ^ 16) text) BadNumber >>= new_item before) n is in
      let read = before_ok (ok_or (spelled_number (2 ^ 16) item) BadNumber)
      (new_item before) n plain.1 in
      let new = new_item-ok before read.0 n read.2 in (
        plain.0,
        ok_or-ok (spelled_number (2 ^ 16) item) BadNumber read.0 read.1 ∙ ap Some new.0,
        (tt, ap (is_in before) (sym new.0) ∙ new.1),
      ),
  λ are.
      ap (λ r. r >>= λ text. ok_or (spelled_number (2 ^ 16) text) BadNumber >>= new_item before)
      (plain_item_again item are.0)
      ∙ ap (λ (o : Option ℕ). ok_or o BadNumber >>= new_item before) are.1
      ∙ new_again before n are.2.1,
)

pub groups_exact : GroupsExact
groups_exact text value =
    let exact = list_exact group_item (spelled_number (2 ^ 16))
    (IsNew IsAnyNumber) group_item-exact TlsSupportedGroups text value in (
      λ is.
          let (groups, list, new, short) = exact.0 is in
          (groups, list, (all_new-distinct IsAnyNumber groups new).1, short),
      λ are.
          let (groups, list, distinct, short) = are in
          exact.1 (
            groups,
            list,
            distinct-all_new IsAnyNumber groups
                (each_number groups) distinct,
            short,
          ),
    )

-- ---- keys

abbrev IsOtherKey : ℕ → Type 0
IsOtherKey key = 0 < key

other_key-ok : (key other : ℕ) → other_key key ≡ Ok other → (key ≡ other) × (0 < key)
other_key-ok key other =
    elim (key == 0) as (λ b. (key == 0) ≡ b → cond b (Err KeyZeroInMandatory) (Ok key) ≡ Ok other
    → (key ≡ other) × (0 < key)) [
      | true ↦ λ zero is. absurd cc
      | false ↦ λ above is. (cc, grind (arith, nat_tests))
    ] refl

other_key-again : (key : ℕ) → 0 < key → other_key key ≡ Ok key
other_key-again key above =
    let other : (key == 0) ≡ false = grind (arith, nat_tests) in
    ap (λ b. cond b (Err KeyZeroInMandatory) (Ok key)) other

mandatory_item-exact : (before : List ℕ) (item : List ℕ) (key : ℕ)
    → (mandatory_item before item ≡ Ok key)
    ↔ (IsUnescaped item × (spelled_key parameter_keys item ≡ Some key)
    × IsNew IsOtherKey before key)
mandatory_item-exact before item key = (
  λ is.
      let plain = behind_plain item
      (λ text. ok_or (spelled_key parameter_keys text) UnknownKey >>= λ k. other_key k
      >>= new_item before) key is in
      let read = before_ok (ok_or (spelled_key parameter_keys item) UnknownKey)
      (λ k. other_key k >>= new_item before) key plain.1 in
      let other = before_ok (other_key read.0) (new_item before) key read.2 in
      let above = other_key-ok read.0 other.0 other.1 in
      let new = new_item-ok before other.0 key other.2 in
      let same = above.0 ∙ new.0 in (
        plain.0,
        ok_or-ok (spelled_key parameter_keys item) UnknownKey read.0 read.1 ∙ ap Some same,
        (subst IsOtherKey same above.1, ap (is_in before) (sym new.0) ∙ new.1),
      ),
  λ are.
      ap (λ r. r >>= λ text. ok_or (spelled_key parameter_keys text) UnknownKey
      >>= λ k. other_key k >>= new_item before) (plain_item_again item are.0)
      ∙ ap (λ (o : Option ℕ). ok_or o UnknownKey >>= λ k. other_key k >>= new_item before) are.1
      ∙ ap (λ r. r >>= new_item before) (other_key-again key are.2.0)
      ∙ new_again before key are.2.1,
)

pub mandatory_exact : MandatoryExact
mandatory_exact text value =
    let exact = list_exact mandatory_item (spelled_key parameter_keys)
    (IsNew IsOtherKey) mandatory_item-exact (λ keys. Mandatory (in_ascending_order keys)) text
    value in (
      λ is.
          let (keys, list, new, short) = exact.0 is in
          let known = all_new-distinct IsOtherKey keys new in
          (keys, list, known.0, known.1, short),
      λ are.
          let (keys, list, other, distinct, short) = are in
          exact.1 (keys, list, distinct-all_new IsOtherKey keys other distinct, short),
    )

-- ---- protocols

pub alpn_value_exact : AlpnValueExact
alpn_value_exact text value = (
  λ is.
      let all = before_ok (some_text text >>= protocols_of)
      (λ protocols. short_value (Alpn protocols)) value is in (
        all.0,
        (alpn_exact text all.0).0 (behind_text text protocols_of all.0 all.1).1,
        short_value-ok (Alpn all.0) value all.2,
      ),
  λ are.
      let (protocols, list, short) = are in
      ap (λ r. r >>= protocols_of >>= λ protocols. short_value (Alpn protocols))
      (some_text_again text (some_protocols text protocols list))
      ∙ ap (λ r. r >>= λ protocols. short_value (Alpn protocols))
      ((alpn_exact text protocols).1 list)
      ∙ short_value-again (Alpn protocols) value short,
)
