-- The keys that a list of mandatory keys names, among the values that a map holds.
use Rattle.std.proofs.Common.{◌≡◌, ◌≢◌, ℕ, ◌+◌, ◌<◌, Bool, true, false, ◌&&◌, List, [], ◌∷◌, Option, Some, None, refl, sym, ap, ap₂, ◌∙◌, arith, inl, inr}
use Rattle.std.specs.List.{list_all, AllByRecursion}
use Rattle.std.specs.Ordering.{nat_cmp}
use Rattle.std.specs.BTreeMap.{is_at}
use Rattle.std.specs.Map.{lookup}
use Rattle.std.proofs.lemmas.Bool.{cases_eq}
use Rattle.svcb_spec.specs.Params.{Ascends}
use Rattle.svcb_spec.specs.Values.{Value, key_of}
use Rattle.svcb_spec.specs.Values as values
use Rattle.svcb_text.specs.declared.all_values.AllValues.{AllValues}
use Rattle.svcb_text.specs.declared.all_values_ref.AllValuesRef.{AllValuesRef}
use Rattle.svcb_text.specs.declared.all_values_ref.AllValuesRef.TheVariants.{Mandatory, Alpn, NoDefaultAlpn, Port, Ech, Ipv4Hint, Ipv6Hint, DohPath, Ohttp, TlsSupportedGroups, Unknown}
use Rattle.svcb_text.specs.AllValues.{value_of}
use Rattle.svcb_text.specs.AllValuesRef.{seen_view}
use Rattle.svcb_spec.specs.ParamTexts.{has_key, mandatory_keys, are_mandatory_there}
use Rattle.svcb_pairs.specs.Holding.{Entries, pairs_of, Holds, has_entry, has_mandatory}
use Rattle.svcb_pairs.proofs.Insertions.{first_found, first_passed}
use Rattle.svcb_pairs.proofs.OneMore.{has_key-held}

-- a view of another value lists no keys
pub no_list : (view : AllValuesRef) → ((list : _) → view ≡ Mandatory list → ⊥)
    → mandatory_keys (seen_view view) ≡ []
no_list (Mandatory list) other = absurd (other list refl)
no_list (Alpn view) other = refl
no_list (NoDefaultAlpn marker) other = refl
no_list (Port port) other = refl
no_list (Ech view) other = refl
no_list (Ipv4Hint view) other = refl
no_list (Ipv6Hint view) other = refl
no_list (DohPath view) other = refl
no_list (Ohttp marker) other = refl
no_list (TlsSupportedGroups view) other = refl
no_list (Unknown view) other = refl

-- only a value of the key 0 lists keys
listed_nowhere : (test : ℕ → Bool) (value : Value) → key_of value ≢ 0
    → list_all test (mandatory_keys value) ≡ true
listed_nowhere test (values.Mandatory keys) other = absurd (other refl)
listed_nowhere test (values.Alpn protocols) other = refl
listed_nowhere test values.NoDefaultAlpn other = refl
listed_nowhere test (values.Port port) other = refl
listed_nowhere test (values.Ipv4Hint addresses) other = refl
listed_nowhere test (values.Ech octets) other = refl
listed_nowhere test (values.Ipv6Hint addresses) other = refl
listed_nowhere test (values.DohPath octets) other = refl
listed_nowhere test values.Ohttp other = refl
listed_nowhere test (values.TlsSupportedGroups groups) other = refl
listed_nowhere test (values.Unknown key octets) other = refl

and_true : (b : Bool) → (b && true) ≡ b
and_true true = refl
and_true false = refl

module _ (test : Value → Bool) (elsewhere : (value : Value) → key_of value ≢ 0 → test value ≡ true)
  where
    abbrev tested : ℕ × AllValues → Bool
    tested entry = test (value_of entry.1)

    abbrev AreKeyed : Entries → Type 0
    AreKeyed entries = AllByRecursion (λ entry. entry.0 ≡ key_of (value_of entry.1)) entries

    -- the test of a value under a key, where there is one
    abbrev tested_at : Option AllValues → Bool
    tested_at None = true
    tested_at (Some value) = test (value_of value)

    passes : (entry : ℕ × AllValues) → entry.0 ≡ key_of (value_of entry.1) → 0 ≢ entry.0
        → tested entry ≡ true
    passes entry is apart = elsewhere (value_of entry.1) (λ zero. apart (sym (is ∙ zero)))

    all_above : (least : ℕ) (entries : Entries) → 0 < least → AreKeyed entries
        → Ascends least (pairs_of entries) → list_all tested entries ≡ true
    all_above least [] some keyed up = refl
    all_above least (entry ∷ entries) some keyed up =
        let higher : 0 < entry.0 = omega (arith, up.0) in
        ap₂ (λ (a b : Bool). a && b) (passes entry keyed.0 (λ zero. omega (arith, zero)))
        (all_above (entry.0 + 1) entries (omega arith) keyed.1 up.3)

    all_at_zero : (least : ℕ) (entries : Entries) → AreKeyed entries
        → Ascends least (pairs_of entries)
        → list_all tested entries ≡ tested_at (lookup (is_at (nat_cmp 0)) entries)
    all_at_zero least [] keyed up = refl
    all_at_zero least (entry ∷ entries) keyed up = elim (cases_eq 0 entry.0) [
      | inl zero ↦
          ap (λ b. tested entry && b) (all_above (entry.0 + 1) entries (omega arith) keyed.1 up.3)
          ∙ and_true (tested entry)
          ∙ sym (ap tested_at (first_found 0 entry entries zero))
      | inr apart ↦
          ap (λ b. b && list_all tested entries) (passes entry keyed.0 apart)
          ∙ all_at_zero (entry.0 + 1) entries keyed.1 up.3
          ∙ sym (ap tested_at (first_passed 0 entry entries apart))
    ]

same_tests : (test other : ℕ → Bool) → ((key : ℕ) → test key ≡ other key) → (keys : List ℕ)
    → list_all test keys ≡ list_all other keys
same_tests test other same [] = refl
same_tests test other same (key ∷ keys) =
    ap₂ (λ (a b : Bool). a && b) (same key) (same_tests test other same keys)

-- the map has the mandatory keys exactly where the values do
pub mandatory-held : (held : List Value) (entries : Entries) → Holds held entries
    → are_mandatory_there held ≡ has_mandatory entries
mandatory-held held entries holds =
    sym (holds.all (λ value. list_all (has_key held) (mandatory_keys value)))
    ∙ all_at_zero (λ value. list_all (has_key held) (mandatory_keys value))
    (listed_nowhere (has_key held)) 0 entries holds.keyed holds.is_map
    ∙ same (lookup (is_at (nat_cmp 0)) entries)
  where
    same : (found : Option AllValues)
        → tested_at (λ value. list_all (has_key held) (mandatory_keys value))
        (listed_nowhere (has_key held)) found
        ≡ (elim found [
          | None ↦ true
          | Some value ↦ list_all (has_entry entries) (mandatory_keys (value_of value))
        ])
    same None = refl
    same (Some value) =
        same_tests (has_key held) (has_entry entries)
        (λ key. sym (has_key-held held entries key holds)) (mandatory_keys (value_of value))
