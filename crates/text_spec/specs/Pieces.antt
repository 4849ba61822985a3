-- What the text of one entry is made of, and which tokens it has. An entry is what RFC 1035,
-- section 5.1, has as one, without owner, class and TTL; the order of its faults is this project's
-- own.
use Rattle.std.specs.Prelude.{◌≡◌, ◌⊎◌, ℕ, zero, suc, ◌<◌, Bool, true, false, ◌&&◌, ◌||◌, not, IsTrue, nat_le, nat_lt, ◌==◌, List, [], ◌∷◌, ◌++◌, map, Option, Some, None}
use Rattle.std.specs.List.{flat_map, AllByRecursion}
use Rattle.std.specs.Char.{is_ascii_digit}
use Rattle.name_spec.specs.Printed.{Written, Plain, Escaped, Decimal, octet_text}
use Rattle.text_spec.specs.declared.errors.ScanError.{ScanError}
use Rattle.text_spec.specs.declared.errors.ScanError.TheVariants.{BadSymbol, BadEscape, OpenQuote, BadBracket, TrailingTokens}
use Rattle.text_spec.specs.declared.lexeme.Symbol.{Symbol}
use Rattle.text_spec.specs.declared.lexeme.Lexeme.{Lexeme}
use Rattle.text_spec.specs.declared.lexeme.Lexeme.TheVariants.{Octet, Quote, Gap}

-- space, tab and carriage return
abbrev pub is_blank : ℕ → Bool
is_blank c = (c == 32) || (c == 9) || (c == 13)

-- 0x00 to 0x1F, and 0x7F
abbrev pub is_control : ℕ → Bool
is_control c = nat_lt c 32 || (c == 127)

-- a part of a text
pub data Piece : Type 0 where
  Blank : (octet : ℕ) → Piece
  LineEnd : Piece
  Comment : (text : List ℕ) → Piece
  Opening : Piece
  Closing : Piece
  Bare : (symbol : Written) → Piece
  Quoted : (symbols : List Written) → Piece

-- the octets of a piece
abbrev pub piece_octets : Piece → List ℕ
piece_octets (Blank c) = c ∷ []
piece_octets LineEnd = 10 ∷ []
piece_octets (Comment text) = 59 ∷ text
piece_octets Opening = 40 ∷ []
piece_octets Closing = 41 ∷ []
piece_octets (Bare symbol) = octet_text symbol
piece_octets (Quoted symbols) = 34 ∷ flat_map octet_text symbols ++ 34 ∷ []

-- the symbol that is written so
abbrev pub symbol_of : Written → Symbol
symbol_of (Plain c) = record { octet = c; escaped = false }
symbol_of (Escaped c) = record { octet = c; escaped = true }
symbol_of (Decimal c) = record { octet = c; escaped = true }

-- an octet that stands for itself outside quotes
abbrev pub is_bare : ℕ → Bool
is_bare c = not
    (is_blank c || (c == 10) || (c == 59) || (c == 40) || (c == 41) || (c == 34) || (c == 92)
    || is_control c)

-- an octet that stands for itself in quotes
abbrev pub is_quotable : ℕ → Bool
is_quotable c = not ((c == 34) || (c == 92) || (is_control c && not (c == 9)))

-- an octet that may stand behind a backslash
abbrev pub is_escapable : ℕ → Bool
is_escapable c = not (is_ascii_digit c) && nat_le 32 c && nat_le c 126

-- a symbol, where `plain` tells which octets stand for themselves
abbrev pub IsSymbol : (ℕ → Bool) → Written → Type 0
IsSymbol plain (Plain c) = IsTrue (plain c)
IsSymbol plain (Escaped c) = IsTrue (is_escapable c)
IsSymbol plain (Decimal c) = c < 256

-- the text's end, or a line's
abbrev pub EndsLine : List ℕ → Type 0
EndsLine [] = Unit {0}
EndsLine (c ∷ rest) = c ≡ 10

-- a comment has no line's end, and one or the text's end follows
abbrev pub IsComment : List ℕ → List ℕ → Type 0
IsComment text following = AllByRecursion (λ c. IsTrue (not (c == 10))) text × EndsLine following

-- Behind the line's end that ends the entry stand blanks, line ends and comments alone. At last
-- holds what `ended` says, and `rest` follows.
abbrev pub IsTailRow : Type 0 → List ℕ → List Piece → Type 0
IsTailRow ended rest [] = ended
IsTailRow ended rest (Blank c ∷ pieces) = IsTrue (is_blank c) × IsTailRow ended rest pieces
IsTailRow ended rest (LineEnd ∷ pieces) = IsTailRow ended rest pieces
IsTailRow ended rest (Comment text ∷ pieces) =
    IsComment text (flat_map piece_octets pieces ++ rest) × IsTailRow ended rest pieces
IsTailRow ended rest (piece ∷ pieces) = ⊥

-- These pieces may stand in a row, within so many brackets. At last holds what `within` says of the
-- brackets that are open, or what `ended` says behind the entry's last line, and `rest` follows.
abbrev pub IsPieceRow : (ℕ → Type 0) → Type 0 → List ℕ → ℕ → List Piece → Type 0
IsPieceRow within ended rest depth [] = within depth
IsPieceRow within ended rest depth (Blank c ∷ pieces) =
    IsTrue (is_blank c) × IsPieceRow within ended rest depth pieces
IsPieceRow within ended rest zero (LineEnd ∷ pieces) = IsTailRow ended rest pieces
IsPieceRow within ended rest (suc depth) (LineEnd ∷ pieces) =
    IsPieceRow within ended rest (suc depth) pieces
IsPieceRow within ended rest depth (Comment text ∷ pieces) =
    IsComment text (flat_map piece_octets pieces ++ rest)
    × IsPieceRow within ended rest depth pieces
IsPieceRow within ended rest depth (Opening ∷ pieces) =
    IsPieceRow within ended rest (suc depth) pieces
IsPieceRow within ended rest zero (Closing ∷ pieces) = ⊥
IsPieceRow within ended rest (suc depth) (Closing ∷ pieces) =
    IsPieceRow within ended rest depth pieces
IsPieceRow within ended rest depth (Bare symbol ∷ pieces) =
    IsSymbol is_bare symbol × IsPieceRow within ended rest depth pieces
IsPieceRow within ended rest depth (Quoted symbols ∷ pieces) =
    AllByRecursion (IsSymbol is_quotable) symbols × IsPieceRow within ended rest depth pieces

-- these pieces are the rest of an entry within so many brackets: all are closed, and nothing
-- follows
abbrev pub IsEntry : ℕ → List Piece → Type 0
IsEntry depth pieces = IsPieceRow (λ d. d ≡ 0) (Unit {0}) [] depth pieces

-- what a piece is, seen from the tokens
abbrev pub lexemes_of : Piece → List Lexeme
lexemes_of (Bare symbol) = Octet (symbol_of symbol) ∷ []
lexemes_of (Quoted symbols) = Quote ∷ map (λ w. Octet (symbol_of w)) symbols ++ Quote ∷ []
lexemes_of piece = Gap ∷ []

-- A token is a longest row of adjoining bare symbols and quoted strings. Here `None` or the symbols
-- of a token so far stand in front.
abbrev pub token_groups : Option (List Symbol) → List Lexeme → List (List Symbol)
token_groups None [] = []
token_groups (Some token) [] = token ∷ []
token_groups None (Gap ∷ lexemes) = token_groups None lexemes
token_groups (Some token) (Gap ∷ lexemes) = token ∷ token_groups None lexemes
token_groups None (Quote ∷ lexemes) = token_groups (Some []) lexemes
token_groups (Some token) (Quote ∷ lexemes) = token_groups (Some token) lexemes
token_groups None (Octet symbol ∷ lexemes) = token_groups (Some (symbol ∷ [])) lexemes
token_groups (Some token) (Octet symbol ∷ lexemes) =
    token_groups (Some (token ++ symbol ∷ [])) lexemes

-- the tokens of pieces
abbrev pub tokens_of : List Piece → List (List Symbol)
tokens_of pieces = token_groups None (flat_map lexemes_of pieces)

-- the text is an entry, and has these tokens
abbrev pub HasTokens : List ℕ → List (List Symbol) → Type 0
HasTokens text tokens =
    (pieces : List Piece) × IsEntry 0 pieces × (text ≡ flat_map piece_octets pieces)
    × (tokens ≡ tokens_of pieces)

-- the pieces are parts of tokens
abbrev pub AreParts : List Piece → Type 0
AreParts [] = Unit {0}
AreParts (Bare symbol ∷ pieces) = IsSymbol is_bare symbol × AreParts pieces
AreParts (Quoted symbols ∷ pieces) = AllByRecursion (IsSymbol is_quotable) symbols × AreParts pieces
AreParts (piece ∷ pieces) = ⊥

-- the text is wholly that of one token
abbrev pub IsTokenText : List ℕ → List Symbol → Type 0
IsTokenText text token =
    (pieces : List Piece) × AreParts pieces × (text ≡ flat_map piece_octets pieces)
    × (tokens_of pieces ≡ token ∷ [])

-- ---- faults

-- behind a backslash stand these octets, and no escape begins there
abbrev pub NoEscape : List ℕ → Type 0
NoEscape rest = (symbol : Written) (more : List ℕ)
    → IsSymbol (λ _. false) symbol → 92 ∷ rest ≡ octet_text symbol ++ more → ⊥

-- an octet that no text may have there
abbrev pub is_stray : ℕ → Bool
is_stray c = is_control c && not (is_blank c || (c == 10))

-- nor within quotes
abbrev pub is_stray_in_quotes : ℕ → Bool
is_stray_in_quotes c = is_control c && not (c == 9)

-- the fault at these octets, within quotes
abbrev pub FaultInQuotes : List ℕ → ScanError → Type 0
FaultInQuotes [] OpenQuote = Unit {0}
FaultInQuotes (c ∷ rest) BadSymbol = IsTrue (is_stray_in_quotes c)
FaultInQuotes (c ∷ rest) BadEscape = (c ≡ 92) × NoEscape rest
FaultInQuotes rest fault = ⊥

-- the fault at these octets, within so many brackets
abbrev pub FaultAt : List ℕ → ScanError → ℕ → Type 0
FaultAt [] BadBracket depth = 0 < depth
FaultAt (c ∷ rest) BadBracket depth = (c ≡ 41) × (depth ≡ 0)
FaultAt (c ∷ rest) BadSymbol depth = IsTrue (is_stray c)
FaultAt (c ∷ rest) BadEscape depth = (c ≡ 92) × NoEscape rest
FaultAt rest fault depth = ⊥

-- the fault at these octets, behind the entry
abbrev pub FaultAfter : List ℕ → ScanError → Type 0
FaultAfter (c ∷ rest) TrailingTokens = IsTrue (not (is_blank c || (c == 10) || (c == 59)))
FaultAfter rest fault = ⊥

-- a row of pieces leads to the fault, or to a quote and symbols behind which it stands
abbrev pub HasFault : ℕ → List ℕ → ScanError → Type 0
HasFault depth text fault =
    (pieces : List Piece) × (rest : List ℕ) × (text ≡ flat_map piece_octets pieces ++ rest)
    × (IsPieceRow (FaultAt rest fault) (FaultAfter rest fault) rest depth pieces
    ⊎ ((symbols : List Written) × (after : List ℕ)
    × (rest ≡ 34 ∷ flat_map octet_text symbols ++ after)
    × AllByRecursion (IsSymbol is_quotable) symbols × FaultInQuotes after fault
    × IsPieceRow (λ _. Unit {0}) ⊥ rest depth pieces))
