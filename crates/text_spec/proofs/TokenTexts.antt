-- Texts put together of token texts and of what stands between them. Offered to the crates above:
-- `IsRow-parts`, `grouped-parts` and `grouped-token` for rows of pieces, and for texts `EntryText`
-- and `GapText` with `has_no_tokens`, `blank_on`, `line_on`, `comment_on`, `opening_on`,
-- `closing_on`, `token_on` and `has_token`.
use Rattle.std.proofs.Common.{◌≡◌, ℕ, suc, true, Option, Some, None, List, [], ◌∷◌, ◌++◌, map, refl, sym, ap, ◌∙◌}
use Rattle.std.proofs.lemmas.Grind.{flat_map-append}
use Rattle.std.proofs.lemmas.List.{append-nil}
use Rattle.std.specs.Prelude.{IsTrue, not, ◌==◌}
use Rattle.std.specs.List.{flat_map, AllByRecursion}
use Rattle.name_spec.specs.Printed.{Written}
use Rattle.text_spec.specs.declared.lexeme.Lexeme.{Lexeme}
use Rattle.text_spec.specs.declared.lexeme.Lexeme.TheVariants.{Octet, Quote, Gap}
use Rattle.text_spec.specs.declared.lexeme.Symbol.{Symbol}
use Rattle.text_spec.specs.Pieces.{is_blank, symbol_of, Piece, Blank, LineEnd, Comment, Opening, Closing, Bare, Quoted, piece_octets, IsPieceRow, IsEntry, lexemes_of, token_groups, tokens_of, HasTokens, AreParts, IsTokenText}

-- ---- rows of pieces

-- parts of tokens may stand in front of any row
pub IsRow-parts : (within : ℕ → Type 0) (ended : Type 0) (rest : List ℕ) (depth : ℕ)
    (parts pieces : List Piece) → AreParts parts
    → IsPieceRow within ended rest depth pieces
    → IsPieceRow within ended rest depth (parts ++ pieces)
IsRow-parts within ended rest depth [] pieces are row = row
IsRow-parts within ended rest depth (Bare symbol ∷ parts) pieces are row =
    (are.0, IsRow-parts within ended rest depth parts pieces are.1 row)
IsRow-parts within ended rest depth (Quoted symbols ∷ parts) pieces are row =
    (are.0, IsRow-parts within ended rest depth parts pieces are.1 row)
IsRow-parts within ended rest depth (piece ∷ parts) pieces are row = absurd are

pub IsEntry-parts : (depth : ℕ) (parts pieces : List Piece) → AreParts parts → IsEntry depth pieces
    → IsEntry depth (parts ++ pieces)
IsEntry-parts depth parts pieces are row =
    IsRow-parts (λ d. d ≡ 0) (Unit {0}) [] depth parts pieces are row

-- the token that is open behind lexemes
abbrev pub open_behind : Option (List Symbol) → List Lexeme → Option (List Symbol)
open_behind token [] = token
open_behind token (Gap ∷ lexemes) = open_behind None lexemes
open_behind None (Quote ∷ lexemes) = open_behind (Some []) lexemes
open_behind (Some token) (Quote ∷ lexemes) = open_behind (Some token) lexemes
open_behind None (Octet symbol ∷ lexemes) = open_behind (Some (symbol ∷ [])) lexemes
open_behind (Some token) (Octet symbol ∷ lexemes) =
    open_behind (Some (token ++ symbol ∷ [])) lexemes

-- no lexeme is a gap
abbrev AreOfToken : List Lexeme → Type 0
AreOfToken [] = Unit {0}
AreOfToken (Gap ∷ lexemes) = ⊥
AreOfToken (lexeme ∷ lexemes) = AreOfToken lexemes

AreOfToken-append : (front lexemes : List Lexeme) → AreOfToken front → AreOfToken lexemes
    → AreOfToken (front ++ lexemes)
AreOfToken-append [] lexemes are more = more
AreOfToken-append (Gap ∷ front) lexemes are more = absurd are
AreOfToken-append (Quote ∷ front) lexemes are more = AreOfToken-append front lexemes are more
AreOfToken-append (Octet symbol ∷ front) lexemes are more = AreOfToken-append front lexemes are more

AreOfToken-symbols : (symbols : List Written) → AreOfToken (map (λ w. Octet (symbol_of w)) symbols)
AreOfToken-symbols [] = tt
AreOfToken-symbols (symbol ∷ symbols) = AreOfToken-symbols symbols

AreOfToken-parts : (parts : List Piece) → AreParts parts → AreOfToken (flat_map lexemes_of parts)
AreOfToken-parts [] are = tt
AreOfToken-parts (Bare symbol ∷ parts) are = AreOfToken-parts parts are.1
AreOfToken-parts (Quoted symbols ∷ parts) are =
    AreOfToken-append (map (λ w. Octet (symbol_of w)) symbols ++ Quote ∷ [])
    (flat_map lexemes_of parts)
    (AreOfToken-append (map (λ w. Octet (symbol_of w)) symbols) (Quote ∷ [])
    (AreOfToken-symbols symbols) tt) (AreOfToken-parts parts are.1)
AreOfToken-parts (piece ∷ parts) are = absurd are

grouped-front : (token : Option (List Symbol)) (front lexemes : List Lexeme) → AreOfToken front
    → token_groups token (front ++ lexemes) ≡ token_groups (open_behind token front) lexemes
grouped-front token [] lexemes are = refl
grouped-front token (Gap ∷ front) lexemes are = absurd are
grouped-front None (Quote ∷ front) lexemes are = grouped-front (Some []) front lexemes are
grouped-front (Some token) (Quote ∷ front) lexemes are =
    grouped-front (Some token) front lexemes are
grouped-front None (Octet symbol ∷ front) lexemes are =
    grouped-front (Some (symbol ∷ [])) front lexemes are
grouped-front (Some token) (Octet symbol ∷ front) lexemes are =
    grouped-front (Some (token ++ symbol ∷ [])) front lexemes are

-- parts of tokens end no token
pub grouped-parts : (token : Option (List Symbol)) (parts pieces : List Piece) → AreParts parts
    → token_groups token (flat_map lexemes_of (parts ++ pieces))
    ≡ token_groups (open_behind token (flat_map lexemes_of parts)) (flat_map lexemes_of pieces)
grouped-parts token parts pieces are =
    ap (token_groups token) (flat_map-append lexemes_of parts pieces)
    ∙ grouped-front token (flat_map lexemes_of parts) (flat_map lexemes_of pieces)
    (AreOfToken-parts parts are)

open_is : (token : List Symbol) (open_token : Option (List Symbol))
    → token_groups open_token [] ≡ token ∷ [] → open_token ≡ Some token
open_is token None is = absurd cc
open_is token (Some other) is = cc

-- parts that are one token leave that token open
pub grouped-token : (parts pieces : List Piece) (token : List Symbol) → AreParts parts
    → tokens_of parts ≡ token ∷ []
    → tokens_of (parts ++ pieces) ≡ token_groups (Some token) (flat_map lexemes_of pieces)
grouped-token parts pieces token are is =
    let behind = open_behind None (flat_map lexemes_of parts) in
    let alone : tokens_of parts ≡ token_groups behind [] =
    ap (λ row. tokens_of row) (sym (append-nil parts)) ∙ grouped-parts None parts [] are in
    grouped-parts None parts pieces are
    ∙ ap (λ token'. token_groups token' (flat_map lexemes_of pieces))
    (open_is token behind (sym alone ∙ is))

-- ---- texts

-- the text is the rest of an entry within so many brackets, and has these tokens
abbrev pub EntryText : ℕ → List ℕ → List (List Symbol) → Type 0
EntryText depth text tokens = (pieces : List Piece) × IsEntry depth pieces
    × (text ≡ flat_map piece_octets pieces) × (tokens ≡ tokens_of pieces)

-- no part of a token stands in front
abbrev pub HasGapFirst : List Piece → Type 0
HasGapFirst [] = Unit {0}
HasGapFirst (Bare symbol ∷ pieces) = ⊥
HasGapFirst (Quoted symbols ∷ pieces) = ⊥
HasGapFirst (piece ∷ pieces) = Unit {0}

-- the same, and a token that stands before it ends there
abbrev pub GapText : ℕ → List ℕ → List (List Symbol) → Type 0
GapText depth text tokens =
    (pieces : List Piece) × HasGapFirst pieces × IsEntry depth pieces
    × (text ≡ flat_map piece_octets pieces) × (tokens ≡ tokens_of pieces)

pub entry_from_gap : (depth : ℕ) (text : List ℕ) (tokens : List (List Symbol))
    → GapText depth text tokens → EntryText depth text tokens
entry_from_gap depth text tokens (pieces, gap, row, is, are) = (pieces, row, is, are)

pub has_no_tokens : GapText 0 [] []
has_no_tokens = ([], tt, refl, refl, refl)

module _ (depth : ℕ) (text : List ℕ) (tokens : List (List Symbol)) where
  pub blank_on : (c : ℕ) → is_blank c ≡ true → EntryText depth text tokens
      → GapText depth (c ∷ text) tokens
  blank_on c blank (pieces, row, is, are) =
      (Blank c ∷ pieces, tt, (blank, row), ap (λ left. c ∷ left) is, are)

  -- a line's end within brackets
  pub line_on : EntryText (suc depth) text tokens → GapText (suc depth) (10 ∷ text) tokens
  line_on (pieces, row, is, are) = (LineEnd ∷ pieces, tt, row, ap (λ left. 10 ∷ left) is, are)

  -- a comment within brackets, and its line's end
  pub comment_on : (comment : List ℕ) → AllByRecursion (λ c. IsTrue (not (c == 10))) comment
      → EntryText (suc depth) text tokens
      → GapText (suc depth) (59 ∷ comment ++ 10 ∷ text) tokens
  comment_on comment one_line (pieces, row, is, are) = (
    Comment comment ∷ LineEnd ∷ pieces,
    tt,
    ((one_line, refl), row),
    ap
        (λ left. 59 ∷ comment ++ 10 ∷ left) is,
    are,
  )

  pub opening_on : EntryText (suc depth) text tokens → GapText depth (40 ∷ text) tokens
  opening_on (pieces, row, is, are) = (Opening ∷ pieces, tt, row, ap (λ left. 40 ∷ left) is, are)

  pub closing_on : EntryText depth text tokens → GapText (suc depth) (41 ∷ text) tokens
  closing_on (pieces, row, is, are) = (Closing ∷ pieces, tt, row, ap (λ left. 41 ∷ left) is, are)

-- a token ends where no part of a token follows
grouped-gap : (token : List Symbol) (pieces : List Piece) → HasGapFirst pieces
    → token_groups (Some token) (flat_map lexemes_of pieces) ≡ token ∷ tokens_of pieces
grouped-gap token [] gap = refl
grouped-gap token (Bare symbol ∷ pieces) gap = absurd gap
grouped-gap token (Quoted symbols ∷ pieces) gap = absurd gap
grouped-gap token (piece ∷ pieces) gap = refl

pub token_on : (depth : ℕ) (text : List ℕ) (tokens : List (List Symbol)) (token_text : List ℕ)
    (token : List Symbol)
    → IsTokenText token_text token → GapText depth text tokens
    → EntryText depth (token_text ++ text) (token ∷ tokens)
token_on depth text tokens token_text token (parts, are_parts, spells, is_token)
    (pieces, gap, row, is, are) = (
      parts ++ pieces,
      IsEntry-parts depth parts pieces are_parts row,
      ap (λ front. front ++ text) spells ∙ ap (λ left. flat_map piece_octets parts ++ left) is
          ∙ sym (flat_map-append piece_octets parts pieces),
      ap (λ more. token ∷ more) are
          ∙ sym (grouped-token parts pieces token are_parts is_token ∙ grouped-gap token pieces gap),
    )

-- a token text alone is an entry of that token
pub has_token : (text : List ℕ) (token : List Symbol) → IsTokenText text token
    → HasTokens text (token ∷ [])
has_token text token (parts, are_parts, spells, is_token) = (
  parts ++ [],
  IsEntry-parts 0 parts [] are_parts refl,
  spells ∙ ap (flat_map piece_octets) (sym (append-nil parts)),
  sym is_token ∙ ap (λ row. tokens_of row) (sym (append-nil parts)),
)
