-- One value more in a map that holds values.
use Rattle.std.proofs.Common.{◌≡◌, ℕ, ◌<◌, Bool, true, false, cond, ◌&&◌, List, [], ◌∷◌, ◌++◌, length, Option, None, Ok, Err, refl, sym, ap, subst, ◌∙◌}
use Rattle.std.specs.Prelude.{is_some}
use Rattle.std.specs.List.{list_all}
use Rattle.std.specs.Ordering.{nat_cmp}
use Rattle.std.specs.BTreeMap.{is_at, insert_entry}
use Rattle.std.specs.Map.{lookup}
use Rattle.std.proofs.lemmas.List.Folds.{list_all-append}
use Rattle.svcb_spec.specs.Params.{Pairs, value_at, IsMap}
use Rattle.svcb_spec.specs.Values.{Value, key_of, encode}
use Rattle.svcb_spec.proofs.WireLaws.{IsMap-insert}
use Rattle.svcb_text.specs.declared.all_values.AllValues.{AllValues}
use Rattle.svcb_text.specs.AllValues.{value_of}
use Rattle.text_spec.specs.declared.errors.ScanError.TheVariants.{DuplicateKey}
use Rattle.svcb_spec.specs.ParamTexts.{has_key, insert_pair}
use Rattle.svcb_pairs.specs.Holding.{Entries, pairs_of, Holds, has_entry, new_value, Kept}
use Rattle.svcb_pairs.proofs.Insertions.{each-insert, list_all-insert, map_of-append, some-map_of, some-pairs_of, pairs_of-insert, insert_new_pair}

-- the map has the keys of the values
pub has_key-held : (values : List Value) (entries : Entries) (key : ℕ) → Holds values entries
    → has_entry entries key ≡ has_key values key
has_key-held values entries key holds =
    some-pairs_of key entries ∙ ap (λ (pairs : Pairs). is_some (value_at pairs key)) holds.pairs
    ∙ some-map_of key values

and_last : (a b : Bool) → (a && (b && true)) ≡ (b && a)
and_last true true = refl
and_last true false = refl
and_last false true = refl
and_last false false = refl

module _ (before : List Value) (entries : Entries) (key : ℕ) (value : AllValues)
    (holds : Holds before entries) (is_key : key ≡ key_of (value_of value)) where
  abbrev found : Option AllValues
  found = lookup (is_at (nat_cmp key)) entries

  keys : is_some found ≡ has_key before (key_of (value_of value))
  keys = has_key-held before entries key holds ∙ ap (has_key before) is_key

  -- a value whose key stands there is refused
  pub held_before : is_some found ≡ true → new_value before (value_of value) ≡ Err DuplicateKey
  held_before old = ap (λ b. cond b (Err DuplicateKey) (Ok (value_of value))) (sym keys ∙ old)

  module _ (absent : found ≡ None) (small : key < 65536)
      (fits : length (encode (value_of value)) < 65536) where
    none : is_some found ≡ false
    none = ap is_some absent

    new : has_key before (key_of (value_of value)) ≡ false
    new = sym keys ∙ none

    pairs_with_new : pairs_of (insert_entry nat_cmp entries key value)
        ≡ insert_entry nat_cmp (pairs_of entries) key (encode (value_of value))
    pairs_with_new = pairs_of-insert key value entries absent

    holds_new : Holds (before ++ value_of value ∷ []) (insert_entry nat_cmp entries key value)
    holds_new = record {
      pairs = pairs_with_new
          ∙ insert_new_pair key (encode (value_of value)) (pairs_of entries)
          (sym (some-pairs_of key entries) ∙ none)
          ∙ ap (λ (n : ℕ). insert_pair (n, encode (value_of value)) (pairs_of entries)) is_key
          ∙ ap (insert_pair (key_of (value_of value), encode (value_of value))) holds.pairs
          ∙ sym (map_of-append before (value_of value) new);
      all = λ test.
          list_all-insert (λ entry. test (value_of entry.1)) key value entries absent
          ∙ ap (λ b. test (value_of value) && b) (holds.all test)
          ∙ sym (list_all-append test before (value_of value ∷ [])
          ∙ and_last (list_all test before) (test (value_of value)));
      keyed = each-insert (λ entry. entry.0 ≡ key_of (value_of entry.1)) key value entries absent
          is_key holds.keyed;
      is_map = subst IsMap (sym pairs_with_new)
          (IsMap-insert (pairs_of entries) key (encode (value_of value)) holds.is_map small fits);
    }

    -- another is kept
    pub held_more : (entries' : Entries) → entries' ≡ insert_entry nat_cmp entries key value
        → Kept {X = ℕ} before (new_value before (value_of value)) entries' (Ok 0)
    held_more entries' put = (
      value_of value,
      ap (λ b. cond b (Err DuplicateKey) (Ok (value_of value))) new,
      subst (Holds (before ++ value_of value ∷ [])) (sym put) holds_new,
    )
