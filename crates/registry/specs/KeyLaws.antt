-- A printed key of a service parameter is read back. Offered to the crates above:
-- `spelled_key-printed_key`.
use Rattle.std.proofs.Common.{◌≡◌, ℕ, ◌<◌, List, [], ◌∷◌, ◌++◌, Bool, true, false, cond, Option, Some, None, refl, sym, ap, ◌∙◌, arith, take}
use Rattle.std.specs.Prelude.{◌==◌, not, codes, unwrap_or}
use Rattle.std.specs.Option.{option_or}
use Rattle.std.specs.List.{list_all, take-map}
use Rattle.std.specs.Char.{to_ascii_lowercase}
use Rattle.std.specs.Cmp.Lexicographic.{pointwise}
use Rattle.std.specs.Fmt.{decimal}
use Rattle.std.proofs.lemmas.Bool.{and_parts}
use Rattle.registry.specs.Tables.{lower_case, is_same, mnemonic_of, number_of, is_table}
use Rattle.registry.specs.Texts.{begins_with_key, generic_key, spelled_key, printed_key, is_key_table}
use Rattle.registry.specs.TableLaws.{same_lower, number_of-mnemonic_of}
use Rattle.registry.specs.TextLaws.{spelled_number-decimal}

-- texts that are the same but for case begin with `key` or do not
begins_with_key-lower : (a b : List ℕ) → lower_case a ≡ lower_case b
    → begins_with_key a ≡ begins_with_key b
begins_with_key-lower a b e =
    let front : lower_case (take 3 a) ≡ lower_case (take 3 b) =
    sym (take-map to_ascii_lowercase 3 a) ∙ ap (take 3) e ∙ take-map to_ascii_lowercase 3 b in
    ap (λ (t : List ℕ). pointwise ◌==◌ t (lower_case (codes "key"))) front

-- a test is not true and false
not_true : (b : Bool) → not b ≡ true → b ≡ true → ⊥
not_true true e h = cc
not_true false e h = cc

-- what begins with `key` is no mnemonic
number_of-key : (rows : List (ℕ × List ℕ)) (text : List ℕ)
    → list_all (λ row. not (begins_with_key row.1)) rows ≡ true → begins_with_key text ≡ true
    → number_of rows text ≡ None
number_of-key [] text none key = refl
number_of-key (row ∷ rows) text none key =
    let parts = and_parts (not (begins_with_key row.1))
    (list_all (λ (r : ℕ × List ℕ). not (begins_with_key r.1)) rows) none in
    elim (is_same row.1 text) as
    (λ t. is_same row.1 text ≡ t → cond t (Some row.0) (number_of rows text) ≡ None) [
      | true ↦ λ same. absurd
          (not_true (begins_with_key row.1) parts.0
          (begins_with_key-lower row.1 text (same_lower row.1 text same) ∙ key))
      | false ↦ λ same. number_of-key rows text parts.1 key
    ] refl

-- a printed key is read back
pub spelled_key-printed_key : (rows : List (ℕ × List ℕ)) → is_key_table rows ≡ true → (n : ℕ)
    → n < 65536 → spelled_key rows (printed_key rows n) ≡ Some n
spelled_key-printed_key rows is n lt =
    let parts = and_parts (is_table 65536 rows)
    (list_all (λ (r : ℕ × List ℕ). not (begins_with_key r.1)) rows) is in
    elim (mnemonic_of rows n) as
    (λ o. mnemonic_of rows n ≡ o → spelled_key rows (unwrap_or o (codes "key" ++ decimal n))
    ≡ Some n) [
      | Some m ↦ λ e. ap (λ (o : Option ℕ). option_or o (generic_key m))
          (number_of-mnemonic_of 65536 rows parts.0 n m e)
      | None ↦ λ e.
          ap (λ (o : Option ℕ). option_or o (generic_key (codes "key" ++ decimal n)))
          (number_of-key rows (codes "key" ++ decimal n) parts.1 refl)
          ∙ spelled_number-decimal 65536 n lt (omega arith)
    ] refl
