-- What is written for pairs.
use Rattle.std.proofs.Common.{◌≡◌, ℕ, List, [], ◌∷◌, ◌++◌, ap, append-nil, append_assoc}
use Rattle.std.specs.List.{flat_map, join_with_byte}
use Rattle.std.specs.Fmt.{HasWritten}
use Rattle.std.specs.declared.fmt.Formatter.{Formatter}

-- texts with a space before each
abbrev pub spaces_and : List (List ℕ) → List ℕ
spaces_and texts = flat_map (λ t. 32 ∷ t) texts

-- the first text, and the others behind a space each
pub first_then_others : (first : List ℕ) (others : List (List ℕ))
    → first ++ spaces_and others ≡ join_with_byte 32 (first ∷ others)
first_then_others first [] = append-nil first
first_then_others first (next ∷ others) =
    ap (λ (t : List ℕ). first ++ 32 ∷ t) (first_then_others next others)

-- one more of the others
pub one_more : (front text rest : List ℕ)
    → (front ++ 32 ∷ text) ++ rest ≡ front ++ 32 ∷ (text ++ rest)
one_more front text rest = append_assoc front (32 ∷ text) rest

-- a prefix of the whole text is written, and the rest is not yet
pub record WritesFront {W : Type 0} (took : W → List ℕ → W → Type 0) (f g : Formatter W)
    (whole rest : List ℕ) : Type 0 where
  pub text : List ℕ
  pub wrote : HasWritten took f text g
  pub whole_is : text ++ rest ≡ whole
