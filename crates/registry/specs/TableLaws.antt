-- What a look-up in a table finds is found back. Offered to the crates above:
-- `mnemonic_of-one_line`.
use Rattle.std.proofs.Common.{◌≡◌, ℕ, List, [], ◌∷◌, true, false, cond, Option, Some, None, refl, ap, ◌∙◌, subst, arith}
use Rattle.std.specs.Prelude.{nat_lt, ◌==◌, is_none, option_map}
use Rattle.std.proofs.lemmas.Bool.{and_parts}
use Rattle.std.proofs.lemmas.Bool.Decides.{nat_tests}
use Rattle.std.specs.Cmp.Lexicographic.{pointwise, bytes_decides}
use Rattle.registry.specs.Tables.{lower_case, is_same, mnemonic_of, number_of, is_one_line, is_table, MnemonicsRead, NumbersRead, MnemonicsOneLine}

-- what the test says of a first row
record FirstRow (bound : ℕ) (row : ℕ × List ℕ) (rows : List (ℕ × List ℕ)) : Type 0 where
  one_line : is_one_line row.1 ≡ true
  new_number : is_none (mnemonic_of rows row.0) ≡ true
  new_name : is_none (number_of rows row.1) ≡ true
  others : is_table bound rows ≡ true

first_row : (bound : ℕ) (row : ℕ × List ℕ) (rows : List (ℕ × List ℕ))
    → is_table bound (row ∷ rows) ≡ true → FirstRow bound row rows
first_row bound row rows e =
    let p = and_parts _ (is_table bound rows) e in
    let q = and_parts _ (is_one_line row.1) p.0 in
    let r = and_parts _ (is_none (number_of rows row.1)) q.0 in
    let s = and_parts (nat_lt row.0 bound) (is_none (mnemonic_of rows row.0)) r.0 in
    record { one_line = q.1; new_number = s.1; new_name = r.1; others = p.1 }

-- two texts are the same in lower case
pub same_lower : (a b : List ℕ) → is_same a b ≡ true → lower_case a ≡ lower_case b
same_lower a b e = (bytes_decides (lower_case a) (lower_case b)).0 e

pub lower_same : (a b : List ℕ) → lower_case a ≡ lower_case b → is_same a b ≡ true
lower_same a b e = (bytes_decides (lower_case a) (lower_case b)).1 e

-- a look-up does not see case
pub number_of-lower : (rows : List (ℕ × List ℕ)) (a b : List ℕ) → lower_case a ≡ lower_case b
    → number_of rows a ≡ number_of rows b
number_of-lower [] a b e = refl
number_of-lower (row ∷ rows) a b e =
    let same : is_same row.1 a ≡ is_same row.1 b = ap (λ m. pointwise ◌==◌ (lower_case row.1) m) e
    in
    rw same (ap (λ o. cond (is_same row.1 b) (Some row.0) o) (number_of-lower rows a b e))

-- nothing cannot be found
taken : {A : Type 0} (o : Option A) (x : A) → is_none o ≡ true → o ≡ Some x → ⊥
taken None x e h = cc
taken (Some y) x e h = cc

-- a number's mnemonic is read as that number
pub number_of-mnemonic_of : (bound : ℕ) (rows : List (ℕ × List ℕ)) → is_table bound rows ≡ true
    → MnemonicsRead rows
number_of-mnemonic_of bound [] is n m e = cc
number_of-mnemonic_of bound (row ∷ rows) is n m e =
    elim (row.0 == n) as (λ t. (row.0 == n) ≡ t → cond t (Some row.1) (mnemonic_of rows n) ≡ Some m
    → number_of (row ∷ rows) m ≡ Some n) [
      | true ↦ λ at e.
          let name : row.1 ≡ m = cc in
          let number : row.0 ≡ n = grind (arith, nat_tests) in
          let same : is_same row.1 m ≡ true = lower_same row.1 m (ap lower_case name) in
          rw same (ap Some number)
      | false ↦ λ at e.
          let first = first_row bound row rows is in
          let found : number_of rows m ≡ Some n =
          number_of-mnemonic_of bound rows first.others n m e in
          elim (is_same row.1 m) as
          (λ t. is_same row.1 m ≡ t → cond t (Some row.0) (number_of rows m) ≡ Some n) [
            | true ↦ λ same. absurd
                (taken (number_of rows row.1) n first.new_name
                (number_of-lower rows row.1 m (same_lower row.1 m same) ∙ found))
            | false ↦ λ same. found
          ] refl
    ] refl e

-- the mnemonic of the number that a text is read as is that text, but for case
pub mnemonic_of-number_of : (bound : ℕ) (rows : List (ℕ × List ℕ)) → is_table bound rows ≡ true
    → NumbersRead rows
mnemonic_of-number_of bound [] is m n e = cc
mnemonic_of-number_of bound (row ∷ rows) is m n e =
    elim (is_same row.1 m) as
    (λ t. is_same row.1 m ≡ t → cond t (Some row.0) (number_of rows m) ≡ Some n
    → option_map lower_case (mnemonic_of (row ∷ rows) n) ≡ Some (lower_case m)) [
      | true ↦ λ same e.
          let number : row.0 ≡ n = cc in
          let at : (row.0 == n) ≡ true = grind (arith, nat_tests) in
          rw at (ap Some (same_lower row.1 m same))
      | false ↦ λ same e.
          let first = first_row bound row rows is in
          let found : option_map lower_case (mnemonic_of rows n) ≡ Some (lower_case m) =
          mnemonic_of-number_of bound rows first.others m n e in
          elim (row.0 == n) as
          (λ t. (row.0 == n) ≡ t
          → option_map lower_case (cond t (Some row.1) (mnemonic_of rows n))
          ≡ Some (lower_case m)) [
            | true ↦ λ at.
                let number : row.0 ≡ n = grind (arith, nat_tests) in
                absurd (mapped (mnemonic_of rows n) (lower_case m)
                (subst (λ (k : ℕ). is_none (mnemonic_of rows k) ≡ true) number
                first.new_number) found)
            | false ↦ λ at. found
          ] refl
    ] refl e
  where
    mapped : (o : Option (List ℕ)) (x : List ℕ) → is_none o ≡ true
        → option_map lower_case o ≡ Some x → ⊥
    mapped None x e h = cc
    mapped (Some y) x e h = cc

-- a mnemonic has no line feed
pub mnemonic_of-one_line : (bound : ℕ) (rows : List (ℕ × List ℕ)) → is_table bound rows ≡ true
    → MnemonicsOneLine rows
mnemonic_of-one_line bound [] is n m e = cc
mnemonic_of-one_line bound (row ∷ rows) is n m e =
    let first = first_row bound row rows is in
    elim (row.0 == n) as (λ t. cond t (Some row.1) (mnemonic_of rows n) ≡ Some m
    → is_one_line m ≡ true) [
      | true ↦ λ e. let name : row.1 ≡ m = cc in rw (← name) first.one_line
      | false ↦ λ e. mnemonic_of-one_line bound rows first.others n m e
    ] e
