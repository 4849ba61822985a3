-- The protocols of a text, step by step.
use Rattle.std.proofs.Common.{◌≡◌, ℕ, zero, suc, ◌<◌, ◌≤◌, List, [], ◌∷◌, length, cond, true, false, Option, None, Some, Result, Ok, Err, refl, ap, arith}
use Rattle.std.specs.Prelude.{◌==◌, nat_lt}
use Rattle.text_spec.specs.declared.errors.ScanError.{ScanError}
use Rattle.text_spec.specs.declared.errors.ScanError.TheVariants.{BadListEscape, EmptyItem, LongItem}
use Rattle.svcb_spec.specs.ListTexts.{◌>>=◌, ItemRead, left_len, read_item, onto_item, some_octets, is_escaped_in_item}
use Rattle.svcb_spec.specs.ValueTexts.{short_item, protocol_item, protocols_step, protocols_within, protocols_of}

-- ---- what is left behind an item is shorter

abbrev pub IsShorter : Result ItemRead ScanError → ℕ → Type 0
IsShorter (Ok read) n = left_len read.rest ≤ n
IsShorter (Err fault) n = Unit {0}

onto_item-shorter : (c : ℕ) (read : Result ItemRead ScanError) (n m : ℕ) → n ≤ m → IsShorter read n
    → IsShorter (onto_item c read) m
onto_item-shorter c (Ok read) n m le is = omega arith
onto_item-shorter c (Err fault) n m le is = tt

pub read_item-shorter : (text : List ℕ) → IsShorter (read_item text) (length text)
read_item-shorter [] = omega arith
read_item-shorter (c ∷ []) =
    elim (c == 44) as
    (λ b. IsShorter
    (cond b (Ok (record { item = []; rest = Some [] }))
    (cond (c == 92) (Err BadListEscape) (Ok (record { item = c ∷ []; rest = None })))) 1) [
      | true ↦ omega arith
      | false ↦ elim (c == 92) as
          (λ b. IsShorter (cond b (Err BadListEscape) (Ok (record { item = c ∷ []; rest = None })))
          1) [
            | true ↦ tt
            | false ↦ omega arith
          ]
    ]
read_item-shorter (c ∷ next ∷ text) =
    elim (c == 44) as (λ b. IsShorter (cond b (Ok (record { item = []; rest = Some (next ∷ text) }))
    (cond (c == 92)
    (cond (is_escaped_in_item next) (onto_item next (read_item text)) (Err BadListEscape))
    (onto_item c (read_item (next ∷ text))))) (length (c ∷ next ∷ text))) [
      | true ↦ omega arith
      | false ↦ elim (c == 92) as
          (λ b. IsShorter
          (cond b (cond (is_escaped_in_item next) (onto_item next (read_item text))
          (Err BadListEscape)) (onto_item c (read_item (next ∷ text))))
          (length (c ∷ next ∷ text))) [
            | true ↦ elim (is_escaped_in_item next) as
                (λ b. IsShorter (cond b (onto_item next (read_item text)) (Err BadListEscape))
                (length (c ∷ next ∷ text))) [
                  | true ↦ onto_item-shorter next (read_item text) (length text)
                      (length (c ∷ next ∷ text)) (omega arith) (read_item-shorter text)
                  | false ↦ tt
                ]
            | false ↦ onto_item-shorter c (read_item (next ∷ text)) (length (next ∷ text))
                (length (c ∷ next ∷ text)) (omega arith) (read_item-shorter (next ∷ text))
          ]
    ]

-- an item that has octets is the item
pub some_octets-shorter : (read : Result ItemRead ScanError) (n : ℕ) → IsShorter read n
    → IsShorter (read >>= some_octets) n
some_octets-shorter (Err fault) n is = tt
some_octets-shorter (Ok read) n is =
    elim (length read.item == 0) as (λ b. IsShorter (cond b (Err EmptyItem) (Ok read)) n)
    [ true ↦ tt | false ↦ is ]

short_item-shorter : (read : Result ItemRead ScanError) (n : ℕ) → IsShorter read n
    → IsShorter (read >>= short_item) n
short_item-shorter (Err fault) n is = tt
short_item-shorter (Ok read) n is =
    elim (nat_lt 255 (length read.item)) as (λ b. IsShorter (cond b (Err LongItem) (Ok read)) n)
    [ true ↦ tt | false ↦ is ]

protocol_item-shorter : (text : List ℕ) → IsShorter (protocol_item text) (length text)
protocol_item-shorter text =
    short_item-shorter (read_item text >>= some_octets) (length text)
    (some_octets-shorter (read_item text) (length text) (read_item-shorter text))

-- ---- enough protocols

-- a protocol in front of those that follow it
abbrev pub onto_rest : (List ℕ → Result (List (List ℕ)) ScanError) → List ℕ → Option (List ℕ)
    → Result (List (List ℕ)) ScanError
onto_rest again item None = Ok (item ∷ [])
onto_rest again item (Some rest) = again rest >>= λ items. Ok (item ∷ items)

-- a step is the same by two readings that agree on shorter texts
module _ (f g : List ℕ → Result (List (List ℕ)) ScanError) (n : ℕ)
    (same : (text : List ℕ) → length text < n → f text ≡ g text) where
  same_rest : (item : List ℕ) (rest : Option (List ℕ)) → left_len rest ≤ n
      → onto_rest f item rest ≡ onto_rest g item rest
  same_rest item None is = refl
  same_rest item (Some text) is =
      ap (λ (r : Result (List (List ℕ)) ScanError). r >>= λ items. Ok (item ∷ items))
      (same text (omega arith))

  same_step : (read : Result ItemRead ScanError) → IsShorter read n
      → (read >>= protocols_step f) ≡ (read >>= protocols_step g)
  same_step (Err fault) is = refl
  same_step (Ok read) is = same_rest read.item read.rest is

within_enough : (n m : ℕ) (text : List ℕ) → length text < n → length text < m
    → protocols_within n text ≡ protocols_within m text
unfolding protocols_within
within_enough zero m text ln lm = absurd (omega arith)
within_enough (suc n) zero text ln lm = absurd (omega arith)
within_enough (suc n) (suc m) text ln lm =
    same_step (protocols_within n) (protocols_within m) (length text)
    (λ rest less. within_enough n m rest (omega arith) (omega arith))
    (protocol_item text) (protocol_item-shorter text)

pub protocols_of-step : (text : List ℕ)
    → protocols_of text ≡ (protocol_item text >>= protocols_step protocols_of)
unfolding protocols_within
protocols_of-step text =
    same_step (protocols_within (length text)) protocols_of (length text)
    (λ rest less. within_enough (length text) (suc (length rest)) rest less (omega arith))
    (protocol_item text) (protocol_item-shorter text)
