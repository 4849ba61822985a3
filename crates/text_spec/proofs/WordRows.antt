-- A row of words is an entry with the tokens of these words. Offered to the crates above:
-- `grouped-gap` and `tokens_of-gap`, which say that a gap ends a token, `IsEntry-parts`, and
-- `words_again`.
use Rattle.std.proofs.Common.{◌≡◌, ℕ, zero, suc, Option, Some, None, List, [], ◌∷◌, ◌++◌, refl, sym, ap, ap₂, ◌∙◌, append-nil, arith}
use Rattle.std.specs.List.{flat_map}
use Rattle.std.proofs.lemmas.Grind.{flat_map-append}
use Rattle.text_spec.specs.declared.lexeme.Symbol.{Symbol}
use Rattle.text_spec.specs.declared.lexeme.Lexeme.{Lexeme}
use Rattle.text_spec.specs.declared.lexeme.Lexeme.TheVariants.{Octet, Quote, Gap}
use Rattle.text_spec.specs.Pieces.{Piece, Blank, LineEnd, Comment, Opening, Closing, Bare, Quoted, piece_octets, lexemes_of, token_groups, tokens_of, IsEntry, AreParts, IsTokenText, HasTokens}
use Rattle.text_spec.specs.Words.{Word, Text, OpeningBracket, ClosingBracket, words_text, AreWords}

-- ---- parts of tokens in an entry

-- a gap ends the token so far
pub grouped-gap : (token : Option (List Symbol)) (front behind : List Lexeme)
    → token_groups token (front ++ Gap ∷ behind)
    ≡ token_groups token front ++ token_groups None behind
grouped-gap None [] behind = refl
grouped-gap (Some token) [] behind = refl
grouped-gap None (Gap ∷ front) behind = grouped-gap None front behind
grouped-gap (Some token) (Gap ∷ front) behind =
    ap (λ (ts : List (List Symbol)). token ∷ ts) (grouped-gap None front behind)
grouped-gap None (Quote ∷ front) behind = grouped-gap (Some []) front behind
grouped-gap (Some token) (Quote ∷ front) behind = grouped-gap (Some token) front behind
grouped-gap None (Octet symbol ∷ front) behind = grouped-gap (Some (symbol ∷ [])) front behind
grouped-gap (Some token) (Octet symbol ∷ front) behind =
    grouped-gap (Some (token ++ symbol ∷ [])) front behind

-- so the tokens of pieces before a gap are apart from those behind it
pub tokens_of-gap : (front : List Piece) (gap : Piece) (behind : List Piece)
    → lexemes_of gap ≡ Gap ∷ []
    → tokens_of (front ++ gap ∷ behind) ≡ tokens_of front ++ tokens_of behind
tokens_of-gap front gap behind is =
    ap (token_groups None) (flat_map-append lexemes_of front (gap ∷ behind)
    ∙ ap (λ (ls : List Lexeme). flat_map lexemes_of front ++ (ls ++ flat_map lexemes_of behind)) is)
    ∙ grouped-gap None (flat_map lexemes_of front) (flat_map lexemes_of behind)

-- parts of tokens stand before the rest of an entry
pub IsEntry-parts : (depth : ℕ) (parts pieces : List Piece) → AreParts parts → IsEntry depth pieces
    → IsEntry depth (parts ++ pieces)
IsEntry-parts depth [] pieces h e = e
IsEntry-parts depth (Bare symbol ∷ parts) pieces h e = (h.0, IsEntry-parts depth parts pieces h.1 e)
IsEntry-parts depth (Quoted symbols ∷ parts) pieces h e =
    (h.0, IsEntry-parts depth parts pieces h.1 e)
IsEntry-parts depth (Blank c ∷ parts) pieces h e = absurd h
IsEntry-parts depth (LineEnd ∷ parts) pieces h e = absurd h
IsEntry-parts depth (Comment text ∷ parts) pieces h e = absurd h
IsEntry-parts depth (Opening ∷ parts) pieces h e = absurd h
IsEntry-parts depth (Closing ∷ parts) pieces h e = absurd h

-- ---- rows

-- the text is the rest of an entry, within so many brackets, with these tokens
abbrev pub IsRestText : ℕ → List ℕ → List (List Symbol) → Type 0
IsRestText depth text tokens =
    (pieces : List Piece) × IsEntry depth pieces × (text ≡ flat_map piece_octets pieces)
    × (tokens ≡ tokens_of pieces)

text_last : (depth : ℕ) (text : List ℕ) (token : List Symbol) → IsTokenText text token → depth ≡ 0
    → IsRestText depth text (token ∷ [])
text_last depth text token (parts, are, text_is, tokens_are) closed = (
  parts ++ [],
  IsEntry-parts depth parts [] are closed,
  text_is ∙ ap (flat_map piece_octets) (sym (append-nil parts)),
  sym (ap tokens_of (append-nil parts) ∙ tokens_are),
)

text_before : (depth : ℕ) (text : List ℕ) (token : List Symbol) (rest : List ℕ)
    (tokens : List (List Symbol))
    → IsTokenText text token → IsRestText depth rest tokens
    → IsRestText depth (text ++ 32 ∷ rest) (token ∷ tokens)
text_before depth text token rest tokens (parts, are, text_is, tokens_are)
    (pieces, entry, rest_is, rest_tokens) = (
      parts ++ Blank 32 ∷ pieces,
      IsEntry-parts depth parts (Blank 32 ∷ pieces) are (refl, entry),
      ap₂ (λ (t r : List ℕ). t ++ 32 ∷ r) text_is rest_is
          ∙ sym (flat_map-append piece_octets parts (Blank 32 ∷ pieces)),
      sym (tokens_of-gap parts (Blank 32) pieces refl
          ∙ ap₂ (λ (a b : List (List Symbol)). a ++ b) tokens_are (sym rest_tokens)),
    )

opening_before : (depth : ℕ) (rest : List ℕ) (tokens : List (List Symbol))
    → IsRestText (suc depth) rest tokens
    → IsRestText depth (40 ∷ 32 ∷ rest) tokens
opening_before depth rest tokens (pieces, entry, rest_is, rest_tokens) = (
  Opening ∷ Blank 32
      ∷ pieces,
  (refl, entry),
  ap (λ (t : List ℕ). 40 ∷ 32 ∷ t) rest_is,
  rest_tokens,
)

closing_before : (depth : ℕ) (rest : List ℕ) (tokens : List (List Symbol))
    → IsRestText depth rest tokens
    → IsRestText (suc depth) (41 ∷ 32 ∷ rest) tokens
closing_before depth rest tokens (pieces, entry, rest_is, rest_tokens) = (
  Closing ∷ Blank 32
      ∷ pieces,
  (refl, entry),
  ap (λ (t : List ℕ). 41 ∷ 32 ∷ t) rest_is,
  rest_tokens,
)

row_again : (depth : ℕ) (words : List Word) (tokens : List (List Symbol))
    → AreWords depth words tokens → IsRestText depth (words_text words) tokens
row_again depth [] [] h = ([], h, refl, refl)
row_again depth [] (token ∷ tokens) h = absurd h
row_again depth (Text text ∷ words) [] h = absurd h
row_again depth (Text text ∷ []) (token ∷ []) h = text_last depth text token h.0 h.1
row_again depth (Text text ∷ []) (token ∷ next ∷ tokens) h = absurd h.1
row_again depth (Text text ∷ next ∷ words) (token ∷ tokens) h =
    text_before depth text token (words_text (next ∷ words)) tokens h.0
    (row_again depth (next ∷ words) tokens h.1)
row_again depth (OpeningBracket ∷ []) [] h = absurd (omega arith)
row_again depth (OpeningBracket ∷ []) (token ∷ tokens) h = absurd h
row_again depth (OpeningBracket ∷ next ∷ words) tokens h =
    opening_before depth (words_text (next ∷ words)) tokens
    (row_again (suc depth) (next ∷ words) tokens h)
row_again zero (ClosingBracket ∷ words) tokens h = absurd h
row_again (suc depth) (ClosingBracket ∷ []) [] h = (Closing ∷ [], h, refl, refl)
row_again (suc depth) (ClosingBracket ∷ []) (token ∷ tokens) h = absurd h
row_again (suc depth) (ClosingBracket ∷ next ∷ words) tokens h =
    closing_before depth (words_text (next ∷ words)) tokens
    (row_again depth (next ∷ words) tokens h)

-- words are read back
pub words_again : (words : List Word) (tokens : List (List Symbol)) → AreWords 0 words tokens
    → HasTokens (words_text words) tokens
words_again words tokens h = row_again 0 words tokens h
