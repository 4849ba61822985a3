-- The order of lists of octets, of which parts decide in turn. Offered to the crates above: `less`,
-- `greater`, `equal`, `then_assoc`, `then_equal`, `slice_cmp-append` and `name_wire-order`.
use Rattle.std.proofs.Common.{◌≡◌, ◌≢◌, ℕ, ◌+◌, ◌<◌, List, [], ◌∷◌, ◌++◌, length, refl, sym, ap, ◌∙◌, arith, Ordering, Less, Equal, Greater, inl, inr, append_assoc}
use Rattle.std.proofs.lemmas.Bool.{cases_lt, cases_eq}
use Rattle.std.specs.Ordering.{nat_cmp, ordering_then}
use Rattle.std.specs.Cmp.{nat_cmp_is}
use Rattle.std.specs.Cmp.Lexicographic.{slice_cmp}
use Rattle.name_spec.specs.Names.{name_wire, AreLabels}

pub less : (k n : ℕ) → k < n → nat_cmp k n ≡ Less
less k n below = sym (nat_cmp_is k n Less below)

pub greater : (k n : ℕ) → n < k → nat_cmp k n ≡ Greater
greater k n above = sym (nat_cmp_is k n Greater above)

pub equal : (k n : ℕ) → k ≡ n → nat_cmp k n ≡ Equal
equal k n same = sym (nat_cmp_is k n Equal same)

pub then_assoc : (a b c : Ordering)
    → ordering_then (ordering_then a b) c ≡ ordering_then a (ordering_then b c)
then_assoc Less b c = refl
then_assoc Equal b c = refl
then_assoc Greater b c = refl

pub then_equal : (a : Ordering) → ordering_then a Equal ≡ a
then_equal Less = refl
then_equal Equal = refl
then_equal Greater = refl

-- prefixes of one length decide before what stands behind them
pub slice_cmp-append : (xs xs' ys ys' : List ℕ) → length xs ≡ length xs'
    → slice_cmp nat_cmp (xs ++ ys) (xs' ++ ys')
    ≡ ordering_then (slice_cmp nat_cmp xs xs') (slice_cmp nat_cmp ys ys')
slice_cmp-append [] [] ys ys' long = refl
slice_cmp-append [] (x' ∷ xs') ys ys' long = absurd (omega arith)
slice_cmp-append (x ∷ xs) [] ys ys' long = absurd (omega arith)
slice_cmp-append (x ∷ xs) (x' ∷ xs') ys ys' long =
    ap (ordering_then (nat_cmp x x')) (slice_cmp-append xs xs' ys ys' (omega arith))
    ∙ sym (then_assoc (nat_cmp x x') (slice_cmp nat_cmp xs xs') (slice_cmp nat_cmp ys ys'))

-- the first octets decide where they differ
first_apart : (x y : ℕ) (xs ys xs' ys' : List ℕ) (after : Ordering) → x ≢ y
    → slice_cmp nat_cmp (x ∷ xs) (y ∷ ys)
    ≡ ordering_then (slice_cmp nat_cmp (x ∷ xs') (y ∷ ys')) after
first_apart x y xs ys xs' ys' after apart = elim (cases_lt x y) [
  | inl below ↦
      ap (λ o. ordering_then o (slice_cmp nat_cmp xs ys)) (less x y below)
      ∙ sym (ap (λ o. ordering_then (ordering_then o (slice_cmp nat_cmp xs' ys')) after)
      (less x y below))
  | inr above ↦
      ap (λ o. ordering_then o (slice_cmp nat_cmp xs ys)) (greater x y (omega arith))
      ∙ sym (ap (λ o. ordering_then (ordering_then o (slice_cmp nat_cmp xs' ys')) after)
      (greater x y (omega arith)))
]

-- no name's octets are a prefix of another's, so names decide before what stands behind them
pub name_wire-order : (labels labels' : List (List ℕ)) (octets octets' : ℕ) (xs ys : List ℕ)
    → AreLabels octets labels → AreLabels octets' labels'
    → slice_cmp nat_cmp (name_wire labels ++ xs) (name_wire labels' ++ ys)
    ≡ ordering_then (slice_cmp nat_cmp (name_wire labels) (name_wire labels'))
    (slice_cmp nat_cmp xs ys)
name_wire-order [] [] octets octets' xs ys are are' = refl
name_wire-order [] (label' ∷ labels') octets octets' xs ys are are' =
    first_apart 0 (length label') xs ((label' ++ name_wire labels') ++ ys) []
    (label' ++ name_wire labels') (slice_cmp nat_cmp xs ys) (λ same. omega (arith, are'.0))
name_wire-order (label ∷ labels) [] octets octets' xs ys are are' =
    first_apart (length label) 0 ((label ++ name_wire labels) ++ xs) ys (label ++ name_wire labels)
    [] (slice_cmp nat_cmp xs ys) (λ same. omega (arith, are.0))
name_wire-order (label ∷ labels) (label' ∷ labels') octets octets' xs ys are are' =
    elim (cases_eq (length label) (length label')) [
      | inl same ↦
          let rest = name_wire-order labels labels' (octets + length label + 1)
          (octets' + length label' + 1) xs ys are.3 are'.3 in
          let long : length (length label ∷ label) ≡ length (length label' ∷ label') = omega arith in
          let head : Ordering = slice_cmp nat_cmp (length label ∷ label) (length label' ∷ label') in
          let tail : Ordering = slice_cmp nat_cmp (name_wire labels) (name_wire labels') in
          ap (λ zs. slice_cmp nat_cmp zs ((length label' ∷ label' ++ name_wire labels') ++ ys))
          (append_assoc (length label ∷ label) (name_wire labels) xs)
          ∙ ap (λ zs. slice_cmp nat_cmp (length label ∷ label ++ (name_wire labels ++ xs)) zs)
          (append_assoc (length label' ∷ label') (name_wire labels') ys)
          ∙ slice_cmp-append (length label ∷ label) (length label' ∷ label') (name_wire labels ++ xs)
          (name_wire labels' ++ ys) long
          ∙ ap (ordering_then head) rest
          ∙ sym (then_assoc head tail (slice_cmp nat_cmp xs ys))
          ∙ ap (λ o. ordering_then o (slice_cmp nat_cmp xs ys))
          (sym (slice_cmp-append (length label ∷ label) (length label' ∷ label') (name_wire labels)
          (name_wire labels') long))
      | inr apart ↦
          first_apart (length label) (length label') ((label ++ name_wire labels) ++ xs)
          ((label' ++ name_wire labels') ++ ys) (label ++ name_wire labels)
          (label' ++ name_wire labels') (slice_cmp nat_cmp xs ys) apart
    ]
