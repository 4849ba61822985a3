-- A text and its line have the same tokens. Offered to the crates above: `line_again`.
use Rattle.std.proofs.Common.{◌≡◌, ℕ, zero, suc, List, [], ◌∷◌, ◌++◌, refl, sym, ap, ◌∙◌, subst}
use Rattle.std.proofs.lemmas.Grind.{flat_map-append}
use Rattle.std.proofs.lemmas.List.{append-nil}
use Rattle.std.specs.List.{flat_map}
use Rattle.text_spec.specs.Pieces.{Piece, Blank, LineEnd, Comment, Opening, Closing, Bare, Quoted, piece_octets, EndsLine, IsComment, IsTailRow, IsEntry, tokens_of}
use Rattle.text_spec.proofs.WordRows.{tokens_of-gap}
use Rattle.svcb_laws.specs.DataTextLaws.{LineHasTokens}

-- pieces, and a line's end
abbrev ended : List Piece → List Piece
ended pieces = pieces ++ LineEnd ∷ []

EndsLine-line : (text : List ℕ) → EndsLine (text ++ []) → EndsLine ((text ++ 10 ∷ []) ++ [])
EndsLine-line [] ends = refl
EndsLine-line (c ∷ text) ends = ends

spelled-ended : (pieces : List Piece)
    → flat_map piece_octets (ended pieces) ≡ flat_map piece_octets pieces ++ 10 ∷ []
spelled-ended pieces = flat_map-append piece_octets pieces (LineEnd ∷ [])

comment-line : (text : List ℕ) (pieces : List Piece)
    → IsComment text (flat_map piece_octets pieces ++ [])
    → IsComment text (flat_map piece_octets (ended pieces) ++ [])
comment-line text pieces is = (
  is.0,
  subst (λ following. EndsLine (following ++ [])) (sym (spelled-ended pieces))
      (EndsLine-line (flat_map piece_octets pieces) is.1),
)

tail-line : (pieces : List Piece) → IsTailRow (Unit {0}) [] pieces
    → IsTailRow (Unit {0}) [] (ended pieces)
tail-line [] row = tt
tail-line (Blank c ∷ pieces) row = (row.0, tail-line pieces row.1)
tail-line (LineEnd ∷ pieces) row = tail-line pieces row
tail-line (Comment text ∷ pieces) row = (comment-line text pieces row.0, tail-line pieces row.1)
tail-line (Opening ∷ pieces) row = absurd row
tail-line (Closing ∷ pieces) row = absurd row
tail-line (Bare symbol ∷ pieces) row = absurd row
tail-line (Quoted symbols ∷ pieces) row = absurd row

row-line : (depth : ℕ) (pieces : List Piece) → IsEntry depth pieces → IsEntry depth (ended pieces)
row-line zero [] row = tt
row-line (suc depth) [] row = absurd cc
row-line depth (Blank c ∷ pieces) row = (row.0, row-line depth pieces row.1)
row-line zero (LineEnd ∷ pieces) row = tail-line pieces row
row-line (suc depth) (LineEnd ∷ pieces) row = row-line (suc depth) pieces row
row-line depth (Comment text ∷ pieces) row =
    (comment-line text pieces row.0, row-line depth pieces row.1)
row-line depth (Opening ∷ pieces) row = row-line (suc depth) pieces row
row-line zero (Closing ∷ pieces) row = absurd row
row-line (suc depth) (Closing ∷ pieces) row = row-line depth pieces row
row-line depth (Bare symbol ∷ pieces) row = (row.0, row-line depth pieces row.1)
row-line depth (Quoted symbols ∷ pieces) row = (row.0, row-line depth pieces row.1)

pub line_again : LineHasTokens
line_again text tokens (pieces, row, text_is, tokens_are) = (
  ended pieces,
  row-line 0 pieces row,
  ap (λ (t : List ℕ). t ++ 10 ∷ []) text_is ∙ sym (spelled-ended pieces),
  tokens_are ∙ sym (tokens_of-gap pieces LineEnd [] refl ∙ append-nil (tokens_of pieces)),
)
