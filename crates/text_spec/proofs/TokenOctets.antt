-- The tokens of a text of octets are of octets. Offered to the crates above: `token_octets`.
use Rattle.std.proofs.Common.{ℕ, zero, suc, ◌<◌, Bool, Option, Some, None, List, [], ◌∷◌, ◌++◌, map, sym, subst}
use Rattle.std.specs.List.{flat_map}
use Rattle.std.specs.List.{AllByRecursion}
use Rattle.name_spec.specs.Printed.{Written, Plain, Escaped, Decimal, octet_text}
use Rattle.name_spec.specs.AddressLaws.{AreOctets}
use Rattle.text_spec.specs.declared.lexeme.Lexeme.{Lexeme}
use Rattle.text_spec.specs.declared.lexeme.Lexeme.TheVariants.{Octet, Quote, Gap}
use Rattle.text_spec.specs.declared.lexeme.Symbol.{Symbol}
use Rattle.text_spec.specs.Pieces.{symbol_of, is_quotable, Piece, Blank, LineEnd, Comment, Opening, Closing, Bare, Quoted, piece_octets, IsSymbol, IsTailRow, IsPieceRow, lexemes_of, token_groups}
use Rattle.text_spec.specs.Scanning.{octets_of}
use Rattle.text_spec.specs.Laws.{TokensOfOctets}
use Rattle.text_spec.proofs.EncodingTexts.{AreOctets-append}
use Rattle.text_spec.proofs.OctetParts.{AreOctets-split}

-- ---- lexemes

-- the symbols among lexemes are octets
abbrev AreLexemes : List Lexeme → Type 0
AreLexemes [] = Unit {0}
AreLexemes (Octet symbol ∷ lexemes) = (symbol.octet < 256) × AreLexemes lexemes
AreLexemes (lexeme ∷ lexemes) = AreLexemes lexemes

AreLexemes-append : (front behind : List Lexeme) → AreLexemes front → AreLexemes behind
    → AreLexemes (front ++ behind)
AreLexemes-append [] behind are more = more
AreLexemes-append (Octet symbol ∷ front) behind are more =
    (are.0, AreLexemes-append front behind are.1 more)
AreLexemes-append (Quote ∷ front) behind are more = AreLexemes-append front behind are more
AreLexemes-append (Gap ∷ front) behind are more = AreLexemes-append front behind are more

-- so are those of the token that is open
abbrev IsOpen : Option (List Symbol) → Type 0
IsOpen None = Unit {0}
IsOpen (Some token) = AreOctets (octets_of token)

one_more : (token : List Symbol) (symbol : Symbol) → AreOctets (octets_of token)
    → symbol.octet < 256 → AreOctets (octets_of (token ++ symbol ∷ []))
one_more [] symbol are is = (is, tt)
one_more (first ∷ token) symbol are is = (are.0, one_more token symbol are.1 is)

groups_octets : (token : Option (List Symbol)) (lexemes : List Lexeme) → IsOpen token
    → AreLexemes lexemes → AreOctets (flat_map octets_of (token_groups token lexemes))
groups_octets None [] is are = tt
groups_octets (Some token) [] is are = AreOctets-append (octets_of token) [] is tt
groups_octets None (Gap ∷ lexemes) is are = groups_octets None lexemes tt are
groups_octets (Some token) (Gap ∷ lexemes) is are =
    AreOctets-append (octets_of token) (flat_map octets_of (token_groups None lexemes)) is
    (groups_octets None lexemes tt are)
groups_octets None (Quote ∷ lexemes) is are = groups_octets (Some []) lexemes tt are
groups_octets (Some token) (Quote ∷ lexemes) is are = groups_octets (Some token) lexemes is are
groups_octets None (Octet symbol ∷ lexemes) is are =
    groups_octets (Some (symbol ∷ [])) lexemes (are.0, tt) are.1
groups_octets (Some token) (Octet symbol ∷ lexemes) is are =
    groups_octets (Some (token ++ symbol ∷ [])) lexemes (one_more token symbol is are.0) are.1

-- ---- pieces

symbol_octet : (plain : ℕ → Bool) (written : Written) → IsSymbol plain written
    → AreOctets (octet_text written) → (symbol_of written).octet < 256
symbol_octet plain (Plain c) is are = are.0
symbol_octet plain (Escaped c) is are = are.1.0
symbol_octet plain (Decimal c) is are = is

quoted_lexemes : (symbols : List Written) → AllByRecursion (IsSymbol is_quotable) symbols
    → AreOctets (flat_map octet_text symbols)
    → AreLexemes (map (λ w. Octet (symbol_of w)) symbols)
quoted_lexemes [] is are = tt
quoted_lexemes (symbol ∷ symbols) is are =
    let rest = flat_map octet_text symbols in (
      symbol_octet is_quotable symbol is.0 (AreOctets-split (octet_text symbol) rest are).0,
      quoted_lexemes symbols is.1 (AreOctets-split (octet_text symbol) rest are).1,
    )

tail_lexemes : (ended : Type 0) (rest : List ℕ) (pieces : List Piece) → IsTailRow ended rest pieces
    → AreLexemes (flat_map lexemes_of pieces)
tail_lexemes ended rest [] row = tt
tail_lexemes ended rest (Blank c ∷ pieces) row = tail_lexemes ended rest pieces row.1
tail_lexemes ended rest (LineEnd ∷ pieces) row = tail_lexemes ended rest pieces row
tail_lexemes ended rest (Comment text ∷ pieces) row = tail_lexemes ended rest pieces row.1
tail_lexemes ended rest (piece ∷ pieces) row = absurd row

module _ (within : ℕ → Type 0) (ended : Type 0) (rest : List ℕ) where
  row_lexemes : (depth : ℕ) (pieces : List Piece) → IsPieceRow within ended rest depth pieces
      → AreOctets (flat_map piece_octets pieces) → AreLexemes (flat_map lexemes_of pieces)
  row_lexemes depth [] row are = tt
  row_lexemes depth (Blank c ∷ pieces) row are = row_lexemes depth pieces row.1 are.1
  row_lexemes zero (LineEnd ∷ pieces) row are = tail_lexemes ended rest pieces row
  row_lexemes (suc depth) (LineEnd ∷ pieces) row are = row_lexemes (suc depth) pieces row are.1
  row_lexemes depth (Comment text ∷ pieces) row are =
      row_lexemes depth pieces row.1 (AreOctets-split (59 ∷ text) (flat_map piece_octets pieces) are).1
  row_lexemes depth (Opening ∷ pieces) row are = row_lexemes (suc depth) pieces row are.1
  row_lexemes zero (Closing ∷ pieces) row are = absurd row
  row_lexemes (suc depth) (Closing ∷ pieces) row are = row_lexemes depth pieces row are.1
  row_lexemes depth (Bare symbol ∷ pieces) row are =
      let behind = flat_map piece_octets pieces in (
        symbol_octet _ symbol row.0 (AreOctets-split (octet_text symbol) behind are).0,
        row_lexemes depth pieces row.1 (AreOctets-split (octet_text symbol) behind are).1,
      )
  row_lexemes depth (Quoted symbols ∷ pieces) row are =
      let quoted = flat_map octet_text symbols in
      let behind = flat_map piece_octets pieces in
      let inner = map (λ w. Octet (symbol_of w)) symbols in
      let parts = AreOctets-split (34 ∷ quoted ++ 34 ∷ []) behind are in
      AreLexemes-append (inner ++ Quote ∷ []) (flat_map lexemes_of pieces)
      (AreLexemes-append inner (Quote ∷ [])
      (quoted_lexemes symbols row.0 (AreOctets-split quoted (34 ∷ []) parts.0.1).0) tt)
      (row_lexemes depth pieces row.1 parts.1)

pub token_octets : TokensOfOctets
token_octets text tokens are (pieces, row, is, tokens_are) =
    subst (λ ts. AreOctets (flat_map octets_of ts)) (sym tokens_are)
    (groups_octets None (flat_map lexemes_of pieces) tt
    (row_lexemes _ _ _ 0 pieces row (subst AreOctets is are)))
