-- Facts on pieces and lines.
use Rattle.std.proofs.Common.{◌≡◌, ℕ, ◌+◌, ◌<◌, ◌≤◌, ◌==◌, List, [], ◌∷◌, length, take, drop, Option, Some, None, refl, ap, ◌∙◌, inl, inr, arith}
use Rattle.std.proofs.lemmas.Bool.{cases_lt, false_from_ne_true, le-ltb, lt-ltb}
use Rattle.std.proofs.lemmas.List.Quantifiers.{position-Some}
use Rattle.std.proofs.lemmas.List.Splits.{join_with_byte-slice_split, length-slice_split, slice_split_first, slice_split_none}
use Rattle.std.proofs.lemmas.List.Sums.{count_by-le-length, position_or_len_is, fails_before_first}
use Rattle.std.specs.List.{position, position_or_len}
use Rattle.memchr.specs.Find.{IsFirstByte, is_byte}
use Rattle.input_lines.specs.Lines.{pieces, lines, without_empty_last}

-- the first place of a byte is its position
pub position-first : (c : ℕ) (xs : List ℕ) (found : Option ℕ) → IsFirstByte (is_byte c) xs found
    → found ≡ position (λ b. b == c) xs
position-first c xs (Some i) first =
    let low : i < length xs = first.0.high in
    let at : position_or_len (λ b. b == c) xs ≡ i =
    position_or_len_is (λ b. b == c) xs i 0 (omega (arith, low))
    (λ k lt. false_from_ne_true _ (first.0.before k (omega arith) lt)) (λ _. first.1) in
    let test = lt-ltb i (length xs) low in
    rw (at, test) refl
position-first c xs None nowhere =
    let at : position_or_len (λ b. b == c) xs ≡ length xs =
    position_or_len_is (λ b. b == c) xs (length xs) 0 (omega arith)
    (λ k lt. false_from_ne_true _ (nowhere k (omega arith) lt)) (λ lt. absurd (omega (arith, lt))) in
    let test = le-ltb (length xs) (length xs) (omega arith) in
    rw (at, test) refl

-- where the first separator stands at i, the pieces are what is before it, and those of what
-- follows it
pub pieces-found : (c : ℕ) (xs : List ℕ) (i : ℕ) → position (λ b. b == c) xs ≡ Some i
    → pieces c xs ≡ take i xs ∷ pieces c (drop (i + 1) xs)
pieces-found c xs i h =
    let found = position-Some (λ b. b == c) xs i 0 h in
    let at : position_or_len (λ b. b == c) xs ≡ i =
    position_or_len_is (λ b. b == c) xs i 0 (omega (arith, found.0)) found.2 (λ _. found.1) in
    let within : position_or_len (λ b. b == c) xs < length xs = omega (arith, found.0) in
    rw at at (slice_split_first (λ b. b == c) xs 0 within)

-- where there is no separator, all is one piece
pub pieces-none : (c : ℕ) (xs : List ℕ) → position (λ b. b == c) xs ≡ None → pieces c xs ≡ xs ∷ []
pieces-none c xs h =
    elim (cases_lt (position_or_len (λ b. b == c) xs) (length xs)) [
      | inl within ↦
          let test = lt-ltb (position_or_len (λ b. b == c) xs) (length xs) within in
          let none = rw test at h in
          cc none
      | inr past ↦ slice_split_none (λ b. b == c) xs
          (λ k d lt. fails_before_first (λ b. b == c) xs k d (omega arith))
    ]

-- a piece before others is a line, also where it is empty
without_empty_last-cons : (piece : List ℕ) (more : List (List ℕ)) → 0 < length more
    → without_empty_last (piece ∷ more) ≡ piece ∷ without_empty_last more
without_empty_last-cons piece [] some = absurd (omega arith)
without_empty_last-cons [] (next ∷ more) some = refl
without_empty_last-cons (b ∷ piece) (next ∷ more) some = refl

-- a line that a separator ends is the first line
pub lines-more : (line rest bytes : List ℕ) → pieces 10 bytes ≡ line ∷ pieces 10 rest
    → lines bytes ≡ line ∷ lines rest
lines-more line rest bytes h =
    let count = length-slice_split (λ b. b == 10) rest in
    ap without_empty_last h ∙ without_empty_last-cons line (pieces 10 rest) (omega (arith, count))

-- the one piece of bytes is a line, where there are any
pub lines-last : (line bytes : List ℕ) → 0 < length bytes → pieces 10 bytes ≡ line ∷ []
    → lines bytes ≡ line ∷ []
lines-last [] bytes some h = let joined = rw h at (join_with_byte-slice_split 10 bytes)
    in absurd (omega (arith, ap length joined))
lines-last (b ∷ line) bytes some h = ap without_empty_last h

length-without_empty_last : (all : List (List ℕ)) → length (without_empty_last all) ≤ length all
length-without_empty_last [] = omega arith
length-without_empty_last ([] ∷ []) = omega arith
length-without_empty_last ((b ∷ piece) ∷ []) = omega arith
length-without_empty_last ([] ∷ next ∷ more) = let rest = length-without_empty_last (next ∷ more)
    in omega (arith, rest)
length-without_empty_last ((b ∷ piece) ∷ next ∷ more) =
    let rest = length-without_empty_last (next ∷ more) in omega (arith, rest)

-- there are at most as many lines as bytes, and one
pub length-lines : (bytes : List ℕ) → length (lines bytes) ≤ length bytes + 1
length-lines bytes =
    let count = length-slice_split (λ b. b == 10) bytes in
    omega (
      arith,
      count,
      length-without_empty_last (pieces 10 bytes),
      count_by-le-length
          (λ b. b == 10) bytes,
    )
