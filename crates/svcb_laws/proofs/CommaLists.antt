-- A text is split at its commas into exactly the items that give it back with commas between them.
use Rattle.std.proofs.Common.{◌≡◌, ◌≢◌, ℕ, ◌<◌, true, false, cond, List, [], ◌∷◌, ◌++◌, length, refl, sym, ap, subst, ◌∙◌, arith}
use Rattle.std.specs.Prelude.{◌==◌}
use Rattle.std.specs.List.{join_with_byte, AllByRecursion}
use Rattle.std.proofs.lemmas.Bool.Decides.{nat_tests}
use Rattle.svcb_spec.specs.ListTexts.{onto_piece, comma_pieces, comma_items}
use Rattle.svcb_spec.proofs.CommaPieces.{some_pieces}
use Rattle.svcb_laws.specs.ParamTextLaws.{HasNoComma, CommaItemsExact}

-- ---- items that are joined

no_comma : (c : ℕ) → c ≢ 44 → (c == 44) ≡ false
no_comma c other = grind (arith, nat_tests)

comma_pieces-item : (item rest : List ℕ) → HasNoComma item
    → comma_pieces (item ++ 44 ∷ rest) ≡ item ∷ comma_pieces rest
comma_pieces-item [] rest none = refl
comma_pieces-item (c ∷ item) rest none =
    ap (λ b. cond b ([] ∷ comma_pieces (item ++ 44 ∷ rest))
    (onto_piece c (comma_pieces (item ++ 44 ∷ rest)))) (no_comma c none.0)
    ∙ ap (onto_piece c) (comma_pieces-item item rest none.1)

comma_pieces-last : (item : List ℕ) → HasNoComma item → comma_pieces item ≡ item ∷ []
comma_pieces-last [] none = refl
comma_pieces-last (c ∷ item) none =
    ap (λ b. cond b ([] ∷ comma_pieces item) (onto_piece c (comma_pieces item))) (no_comma c none.0)
    ∙ ap (onto_piece c) (comma_pieces-last item none.1)

comma_pieces-join : (item : List ℕ) (items : List (List ℕ)) → AllByRecursion HasNoComma (item ∷ items)
    → comma_pieces (join_with_byte 44 (item ∷ items)) ≡ item ∷ items
comma_pieces-join item [] none = comma_pieces-last item none.0
comma_pieces-join item (next ∷ items) none =
    comma_pieces-item item (join_with_byte 44 (next ∷ items)) none.0
    ∙ ap (λ (pieces : List (List ℕ)). item ∷ pieces) (comma_pieces-join next items none.1)

comma_items-some : (text : List ℕ) → 0 < length text → comma_items text ≡ comma_pieces text
comma_items-some [] some = absurd (omega arith)
comma_items-some (c ∷ text) some = refl

-- joined items are split
comma_items-join : (item : List ℕ) (items : List (List ℕ)) → AllByRecursion HasNoComma (item ∷ items)
    → 0 < length (join_with_byte 44 (item ∷ items))
    → comma_items (join_with_byte 44 (item ∷ items)) ≡ item ∷ items
comma_items-join item items none some =
    comma_items-some (join_with_byte 44 (item ∷ items)) some ∙ comma_pieces-join item items none

-- ---- a text that is split

onto_piece-join : (c : ℕ) (pieces : List (List ℕ))
    → join_with_byte 44 (onto_piece c pieces) ≡ c ∷ join_with_byte 44 pieces
onto_piece-join c [] = refl
onto_piece-join c (piece ∷ []) = refl
onto_piece-join c (piece ∷ next ∷ pieces) = refl

onto_piece-no_comma : (c : ℕ) (pieces : List (List ℕ)) → c ≢ 44 → AllByRecursion HasNoComma pieces
    → AllByRecursion HasNoComma (onto_piece c pieces)
onto_piece-no_comma c [] other none = ((other, tt), tt)
onto_piece-no_comma c (piece ∷ pieces) other none = ((other, none.0), none.1)

behind_comma : (pieces : List (List ℕ)) → 0 < length pieces
    → join_with_byte 44 ([] ∷ pieces) ≡ 44 ∷ join_with_byte 44 pieces
behind_comma [] some = absurd (omega arith)
behind_comma (piece ∷ pieces) some = refl

-- the pieces give the text back, and none of them has a comma
pieces-exact : (text : List ℕ) → (join_with_byte 44 (comma_pieces text) ≡ text)
    × AllByRecursion HasNoComma (comma_pieces text)
pieces-exact [] = (refl, (tt, tt))
pieces-exact (c ∷ text) =
    let behind = pieces-exact text in
    elim (c == 44) as (λ b. (c == 44) ≡ b
    → (join_with_byte 44 (cond b ([] ∷ comma_pieces text) (onto_piece c (comma_pieces text)))
    ≡ c ∷ text)
    × AllByRecursion HasNoComma (cond b ([] ∷ comma_pieces text) (onto_piece c (comma_pieces text)))) [
      | true ↦ λ is.
          let comma : c ≡ 44 = grind (arith, nat_tests) in (
            behind_comma (comma_pieces text) (some_pieces text)
                ∙ ap (λ (tail : List ℕ). 44 ∷ tail) behind.0
                ∙ ap (λ d. d ∷ text) (sym comma),
            (tt, behind.1),
          )
      | false ↦ λ is.
          let other : c ≢ 44 = grind (arith, nat_tests) in (
            onto_piece-join c (comma_pieces text)
                ∙ ap (λ (tail : List ℕ). c ∷ tail) behind.0,
            onto_piece-no_comma c
                (comma_pieces text) other behind.1,
          )
    ] refl

comma_items-are : (text : List ℕ) → AllByRecursion HasNoComma (comma_items text)
    × (text ≡ join_with_byte 44 (comma_items text))
    × (0 < length (comma_items text) → 0 < length text)
comma_items-are [] = (tt, refl, λ some. some)
comma_items-are (c ∷ text) = let are = pieces-exact (c ∷ text)
    in (are.1, sym are.0, λ some. omega arith)

comma_items-of : (text : List ℕ) (items : List (List ℕ)) → AllByRecursion HasNoComma items
    → text ≡ join_with_byte 44 items → (0 < length items → 0 < length text)
    → comma_items text ≡ items
comma_items-of text [] none joined some = ap comma_items joined
comma_items-of text (item ∷ items) none joined some =
    ap comma_items joined
    ∙ comma_items-join item items none
    (subst (λ (t : List ℕ). 0 < length t) joined (some (omega arith)))

pub comma_items_exact : CommaItemsExact
comma_items_exact text items = (
  λ split. subst (λ (is : List (List ℕ)). AllByRecursion HasNoComma is × (text ≡ join_with_byte 44 is)
      × (0 < length is → 0 < length text)) split (comma_items-are text),
  λ are. comma_items-of text items are.0 are.1 are.2,
)
