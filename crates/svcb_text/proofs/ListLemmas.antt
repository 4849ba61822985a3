-- Items that are added in turn are those that are read in turn.
use Rattle.std.proofs.Common.{◌≡◌, ℕ, suc, ◌+◌, ◌^◌, true, false, cond, List, [], ◌∷◌, ◌++◌, length, Option, None, Some, Result, Ok, Err, refl, sym, ap, ◌∙◌, arith, length-append}
use Rattle.std.specs.Prelude.{◌==◌, option_map}
use Rattle.std.specs.Option.{ok_or}
use Rattle.registry.specs.Keys.{parameter_keys}
use Rattle.registry.specs.Texts.{spelled_key, spelled_number}
use Rattle.text_spec.specs.declared.errors.ScanError.{ScanError}
use Rattle.text_spec.specs.declared.errors.ScanError.TheVariants.{UnknownKey, BadNumber, DuplicateItem}
use Rattle.svcb_spec.specs.ListTexts.{◌>>=◌, plain_item, read_items}
use Rattle.svcb_spec.specs.ValueTexts.{new_item, other_key, mandatory_item, insert_ascending, in_ascending_order}
use Rattle.svcb_text.specs.Lists.{add_items, add_last, add_key, read_group}
use Rattle.svcb_text.proofs.AscendingLemmas.{has, has-ascending, ascending-last}

module _ {A : Type 0} (read : List A → List ℕ → Result A ScanError) where
  -- an item in which nothing is escaped, by what its text is
  abbrev pub plainly : List A → List ℕ → Result A ScanError
  plainly before item = plain_item item >>= read before

  pub add_items-last : (before : List A) (items : List (List ℕ))
      → add_items (add_last read) before items ≡ read_items plainly before items
  add_items-last before [] = refl
  add_items-last before (item ∷ items) =
      elim (plain_item item) as
      (λ p. (p >>= λ text. add_last read before text
      >>= λ more. add_items (add_last read) more items)
      ≡ ((p >>= read before) >>= λ x. read_items plainly (before ++ x ∷ []) items)) [
        | Err fault ↦ refl
        | Ok text ↦ elim (read before text) as
            (λ r. ((r >>= λ x. Ok (before ++ x ∷ []))
            >>= λ more. add_items (add_last read) more items)
            ≡ (r >>= λ x. read_items plainly (before ++ x ∷ []) items)) [
              | Err fault ↦ refl
              | Ok x ↦ add_items-last (before ++ x ∷ []) items
            ]
      ]

-- so many items are read as there are
pub length-read_items : {A : Type 0} (rule : List A → List ℕ → Result A ScanError)
    (before : List A) (items : List (List ℕ)) (all : List A)
    → read_items rule before items ≡ Ok all → length all ≡ length before + length items
length-read_items rule before [] all is = let same : before ≡ all = cc
    in omega (arith, ap (λ (l : List _). length l) same)
length-read_items rule before (item ∷ items) all is =
    elim (rule before item) as (λ r. (r >>= λ x. read_items rule (before ++ x ∷ []) items) ≡ Ok all
    → length all ≡ length before + suc (length items)) [
      | Err fault ↦ λ e. absurd cc
      | Ok x ↦ λ e. omega (
        arith,
        length-read_items rule (before ++ x ∷ []) items all e,
        length-append before
            (x ∷ []),
      )
    ] is

-- a key is new among ascending keys where it is new among the keys as they were read
key_added : (before : List ℕ) (items : List (List ℕ)) (k : ℕ)
    → (add_items add_key (in_ascending_order (before ++ k ∷ [])) items
    ≡ (read_items mandatory_item (before ++ k ∷ []) items
    >>= λ keys. Ok (in_ascending_order keys)))
    → ((new_item (in_ascending_order before) k
    >>= λ key. Ok (insert_ascending key (in_ascending_order before)))
    >>= λ more. add_items add_key more items)
    ≡ ((new_item before k >>= λ x. read_items mandatory_item (before ++ x ∷ []) items)
    >>= λ keys. Ok (in_ascending_order keys))
key_added before items k later =
    rw (has-ascending before k) (
    elim (has before k) as
    (λ b. ((cond b (Err DuplicateItem) (Ok k)
    >>= λ key. Ok (insert_ascending key (in_ascending_order before)))
    >>= λ more. add_items add_key more items)
    ≡ ((cond b (Err DuplicateItem) (Ok k)
    >>= λ x. read_items mandatory_item (before ++ x ∷ []) items)
    >>= λ keys. Ok (in_ascending_order keys))) [
      | true ↦ refl
      | false ↦ ap (λ (more : List ℕ). add_items add_key more items)
          (sym (ascending-last before k)) ∙ later
    ])

-- keys are read in any order, and ascend
pub add_items-keys : (before : List ℕ) (items : List (List ℕ))
    → add_items add_key (in_ascending_order before) items
    ≡ (read_items mandatory_item before items >>= λ keys. Ok (in_ascending_order keys))
add_items-keys before [] = refl
add_items-keys before (item ∷ items) =
    elim (plain_item item) as
    (λ p. (p >>= λ text. add_key (in_ascending_order before) text
    >>= λ more. add_items add_key more items)
    ≡ (((p >>= λ text. ok_or (spelled_key parameter_keys text) UnknownKey >>= λ key. other_key key
    >>= new_item before)
    >>= λ x. read_items mandatory_item (before ++ x ∷ []) items)
    >>= λ keys. Ok (in_ascending_order keys))) [
      | Err fault ↦ refl
      | Ok text ↦ elim (ok_or (spelled_key parameter_keys text) UnknownKey) as (λ r.
          (((r >>= λ key. other_key key >>= new_item (in_ascending_order before))
          >>= λ key. Ok (insert_ascending key (in_ascending_order before)))
          >>= λ more. add_items add_key more items)
          ≡ (((r >>= λ key. other_key key >>= new_item before)
          >>= λ x. read_items mandatory_item (before ++ x ∷ []) items)
          >>= λ keys. Ok (in_ascending_order keys))) [
            | Err fault ↦ refl
            | Ok key ↦ elim (other_key key) as (λ r.
                (((r >>= new_item (in_ascending_order before))
                >>= λ k. Ok (insert_ascending k (in_ascending_order before)))
                >>= λ more. add_items add_key more items)
                ≡ (((r >>= new_item before)
                >>= λ x. read_items mandatory_item (before ++ x ∷ []) items)
                >>= λ keys. Ok (in_ascending_order keys))) [
                  | Err fault ↦ refl
                  | Ok k ↦ key_added before items k (add_items-keys (before ++ k ∷ []) items)
                ]
          ]
    ]

-- ---- one more item

-- what a text was read as
pub spelled : {A : Type 0} (fault : ScanError) (found spells : Option A) (x : A)
    → option_map (λ y. y) found ≡ spells → Ok x ≡ ok_or found fault → ok_or spells fault ≡ Ok x
spelled fault None spells x same is = absurd cc
spelled fault (Some y) spells x same is = ap (λ (o : Option _). ok_or o fault) (sym same) ∙ sym is

module _ (before text : List ℕ) (n : ℕ) where
  pub read_group-there : ok_or (spelled_number (2 ^ 16) text) BadNumber ≡ Ok n
      → has before n ≡ true → add_last read_group before text ≡ Err DuplicateItem
  read_group-there is there = rw (is, there) refl

  pub read_group-new : ok_or (spelled_number (2 ^ 16) text) BadNumber ≡ Ok n → has before n ≡ false
      → add_last read_group before text ≡ Ok (before ++ n ∷ [])
  read_group-new is new = rw (is, new) refl

  module _ (is : ok_or (spelled_key parameter_keys text) UnknownKey ≡ Ok n)
      (other : (n == 0) ≡ false) where
    pub add_key-there : has before n ≡ true → add_key before text ≡ Err DuplicateItem
    add_key-there there = rw (is, other, there) refl

    pub add_key-new : has before n ≡ false → add_key before text ≡ Ok (insert_ascending n before)
    add_key-new new = rw (is, other, new) refl
