-- The text of a document has exactly the document's tokens. Offered to the crates above:
-- `layout_splits`.
use Rattle.std.proofs.Common.{◌≡◌, ◌<◌, ◌∙◌, sym, ap, subst, refl, ℕ, zero, suc, ◌+◌, ◌-◌, Bool, true, false, List, [], ◌∷◌, ◌++◌, length, map, Option, Some, None, arith, add-one, append_assoc}
use Rattle.std.specs.Prelude.{IsTrue, nat_lt, ◌==◌, if◌then◌else◌}
use Rattle.std.specs.List.{flat_map}
use Rattle.std.proofs.lemmas.Bool.Decides.{nat_tests}
use Rattle.std.proofs.lemmas.Grind.{flat_map-append}
use Rattle.std.proofs.lemmas.List.{append-nil}
use Rattle.name_spec.specs.Printed.{Written}
use Rattle.text_spec.specs.declared.display_kind.DisplayKind.{DisplayKind}
use Rattle.text_spec.specs.declared.display_kind.DisplayKind.TheVariants.{Simple, Tabbed, Multiline}
use Rattle.text_spec.specs.declared.lexeme.Symbol.{Symbol}
use Rattle.text_spec.specs.declared.lexeme.Lexeme.{Lexeme}
use Rattle.text_spec.specs.declared.lexeme.Lexeme.TheVariants.{Octet, Quote, Gap}
use Rattle.text_spec.specs.Pieces as pieces
use Rattle.text_spec.specs.Pieces.{Piece, Blank, LineEnd, Opening, Closing, Bare, Quoted, piece_octets, symbol_of, is_blank, IsEntry, IsPieceRow, lexemes_of, token_groups, tokens_of, HasTokens, AreParts, IsTokenText}
use Rattle.text_spec.specs.Layouts.{Item, Token, Comment, BlockBegin, BlockEnd, Layout, empty_layout, separator, item_text, blocks_after, layout_step, layout_from, depth_after, IsOneLine, HasOneLineComments, AreTokenTexts}
use Rattle.text_spec.specs.Laws.{LayoutSplits}

-- ---- lexemes without a gap

abbrev IsSolid : List Lexeme → Type 0
IsSolid [] = Unit {0}
IsSolid (Gap ∷ lexemes) = ⊥
IsSolid (Quote ∷ lexemes) = IsSolid lexemes
IsSolid (Octet symbol ∷ lexemes) = IsSolid lexemes

IsSolid-append : (lexemes more : List Lexeme) → IsSolid lexemes → IsSolid more
    → IsSolid (lexemes ++ more)
IsSolid-append [] more h k = k
IsSolid-append (Gap ∷ lexemes) more h k = h
IsSolid-append (Quote ∷ lexemes) more h k = IsSolid-append lexemes more h k
IsSolid-append (Octet symbol ∷ lexemes) more h k = IsSolid-append lexemes more h k

IsSolid-symbols : (symbols : List Written) → IsSolid (map (λ w. Octet (symbol_of w)) symbols)
IsSolid-symbols [] = tt
IsSolid-symbols (w ∷ symbols) = IsSolid-symbols symbols

-- parts of tokens have no gap
IsSolid-parts : (parts : List Piece) → AreParts parts → IsSolid (flat_map lexemes_of parts)
IsSolid-parts [] h = tt
IsSolid-parts (Bare symbol ∷ parts) h = IsSolid-parts parts h.1
IsSolid-parts (Quoted symbols ∷ parts) h =
    IsSolid-append (map (λ w. Octet (symbol_of w)) symbols ++ Quote ∷ [])
    (flat_map lexemes_of parts)
    (IsSolid-append (map (λ w. Octet (symbol_of w)) symbols) (Quote ∷ [])
    (IsSolid-symbols symbols) tt) (IsSolid-parts parts h.1)
IsSolid-parts (Blank c ∷ parts) h = absurd h
IsSolid-parts (LineEnd ∷ parts) h = absurd h
IsSolid-parts (pieces.Comment text ∷ parts) h = absurd h
IsSolid-parts (Opening ∷ parts) h = absurd h
IsSolid-parts (Closing ∷ parts) h = absurd h

-- the symbols held behind a lexeme
abbrev held_behind : Option (List Symbol) → Lexeme → Option (List Symbol)
held_behind held Gap = None
held_behind None Quote = Some []
held_behind (Some token) Quote = Some token
held_behind None (Octet symbol) = Some (symbol ∷ [])
held_behind (Some token) (Octet symbol) = Some (token ++ symbol ∷ [])

abbrev held_behind_all : Option (List Symbol) → List Lexeme → Option (List Symbol)
held_behind_all held [] = held
held_behind_all held (lexeme ∷ lexemes) = held_behind_all (held_behind held lexeme) lexemes

grouped-solid : (held : Option (List Symbol)) (lexemes more : List Lexeme) → IsSolid lexemes
    → token_groups held (lexemes ++ more) ≡ token_groups (held_behind_all held lexemes) more
grouped-solid held [] more h = refl
grouped-solid held (Gap ∷ lexemes) more h = absurd h
grouped-solid None (Quote ∷ lexemes) more h = grouped-solid (Some []) lexemes more h
grouped-solid (Some token) (Quote ∷ lexemes) more h = grouped-solid (Some token) lexemes more h
grouped-solid None (Octet symbol ∷ lexemes) more h =
    grouped-solid (Some (symbol ∷ [])) lexemes more h
grouped-solid (Some token) (Octet symbol ∷ lexemes) more h =
    grouped-solid (Some (token ++ symbol ∷ [])) lexemes more h

-- what is held gives this token alone
held_is : (held : Option (List Symbol)) (token : List Symbol) → token_groups held [] ≡ token ∷ []
    → held ≡ Some token
held_is None token h = absurd cc
held_is (Some held) token h = ap Some (let e : held ≡ token = cc in e)

-- the lexemes of one token, and more
grouped-token : (lexemes more : List Lexeme) (token : List Symbol) → IsSolid lexemes
    → token_groups None lexemes ≡ token ∷ []
    → token_groups None (lexemes ++ more) ≡ token_groups (Some token) more
grouped-token lexemes more token h e =
    let alone : token_groups (held_behind_all None lexemes) [] ≡ token ∷ [] =
    sym (grouped-solid None lexemes [] h) ∙ ap (token_groups None) (append-nil lexemes) ∙ e in
    grouped-solid None lexemes more h
    ∙ ap (λ (held : Option (List Symbol)). token_groups held more)
    (held_is (held_behind_all None lexemes) token alone)

-- parts of tokens in front of an entry
IsEntry-parts : (parts more : List Piece) (depth : ℕ) → AreParts parts → IsEntry depth more
    → IsEntry depth (parts ++ more)
IsEntry-parts [] more depth h k = k
IsEntry-parts (Bare symbol ∷ parts) more depth h k = (h.0, IsEntry-parts parts more depth h.1 k)
IsEntry-parts (Quoted symbols ∷ parts) more depth h k = (h.0, IsEntry-parts parts more depth h.1 k)
IsEntry-parts (Blank c ∷ parts) more depth h k = absurd h
IsEntry-parts (LineEnd ∷ parts) more depth h k = absurd h
IsEntry-parts (pieces.Comment text ∷ parts) more depth h k = absurd h
IsEntry-parts (Opening ∷ parts) more depth h k = absurd h
IsEntry-parts (Closing ∷ parts) more depth h k = absurd h

-- ---- what is held where an item begins

-- the token that is held, if one is
abbrev held_tokens : Option (List Symbol) → List (List Symbol)
held_tokens None = []
held_tokens (Some token) = token ∷ []

grouped-gap : (held : Option (List Symbol)) (lexemes : List Lexeme)
    → token_groups held (Gap ∷ lexemes) ≡ held_tokens held ++ token_groups None lexemes
grouped-gap None lexemes = refl
grouped-gap (Some token) lexemes = refl

-- a separator stands wherever a token is held
abbrev SetsApart : List ℕ → Option (List Symbol) → Type 0
SetsApart [] held = held ≡ None
SetsApart (c ∷ []) held = IsTrue (is_blank c)
SetsApart (c ∷ d ∷ text) held = ⊥

abbrev blanks : List ℕ → List Piece
blanks text = map Blank text

spelled-blanks : (text : List ℕ) → flat_map piece_octets (blanks text) ≡ text
spelled-blanks [] = refl
spelled-blanks (c ∷ text) = ap (λ (t : List ℕ). c ∷ t) (spelled-blanks text)

IsEntry-blanks : (text : List ℕ) (held : Option (List Symbol)) (more : List Piece) (depth : ℕ)
    → SetsApart text held → IsEntry depth more → IsEntry depth (blanks text ++ more)
IsEntry-blanks [] held more depth h k = k
IsEntry-blanks (c ∷ []) held more depth h k = (h, k)
IsEntry-blanks (c ∷ d ∷ text) held more depth h k = absurd h

grouped-blanks : (text : List ℕ) (held : Option (List Symbol)) (lexemes : List Lexeme)
    → SetsApart text held
    → token_groups held (flat_map lexemes_of (blanks text) ++ lexemes)
    ≡ held_tokens held ++ token_groups None lexemes
grouped-blanks [] held lexemes h =
    ap (λ (t : Option (List Symbol)). token_groups t lexemes) h
    ∙ sym (ap (λ (t : Option (List Symbol)). held_tokens t ++ token_groups None lexemes) h)
grouped-blanks (c ∷ []) held lexemes h = grouped-gap held lexemes
grouped-blanks (c ∷ d ∷ text) held lexemes h = absurd h

apart-if : (test : Bool) (c : ℕ) → IsTrue (is_blank c)
    → SetsApart (if test then [] else c ∷ []) None
apart-if true c h = refl
apart-if false c h = h

apart-if_if : (test other : Bool) (c : ℕ) → IsTrue (is_blank c)
    → SetsApart (if test then [] else (if other then [] else c ∷ [])) None
apart-if_if true other c h = refl
apart-if_if false other c h = apart-if other c h

-- where nothing is held, there may be a separator or none
apart-none : (kind : DisplayKind) (layout : Layout) → SetsApart (separator kind layout) None
apart-none Simple layout = apart-if (length layout.text == 0) 32 refl
apart-none Tabbed layout = apart-if (length layout.text == 0) 9 refl
apart-none Multiline layout = apart-if_if (length layout.text == 0) layout.after_comment 32 refl

-- behind a text that ends with no comment stands a separator
apart-behind : (kind : DisplayKind) (layout : Layout) (held : Option (List Symbol))
    → (length layout.text == 0) ≡ false → layout.after_comment ≡ false
    → SetsApart (separator kind layout) held
apart-behind Simple layout held h k =
    subst (λ (b : Bool). SetsApart (if b then [] else 32 ∷ []) held) (sym h) refl
apart-behind Tabbed layout held h k =
    subst (λ (b : Bool). SetsApart (if b then [] else 9 ∷ []) held) (sym h) refl
apart-behind Multiline layout held h k =
    subst (λ (b : Bool). SetsApart
    (if b then [] else (if layout.after_comment then [] else 32 ∷ [])) held) (sym h)
    (subst (λ (b : Bool). SetsApart (if b then [] else 32 ∷ []) held) (sym k) refl)

-- ---- what an item puts in front

-- how many brackets are open
abbrev depth_of : DisplayKind → ℕ → ℕ
depth_of Simple blocks = 0
depth_of Tabbed blocks = 0
depth_of Multiline blocks = blocks

-- the pieces of an item, what is held behind it, and the tokens of what follows
record Front (kind : DisplayKind) (item : Item) (layout : Layout) (held : Option (List Symbol))
    (tokens : List (List Symbol)) (after : Option (List Symbol))
    (more_tokens : List (List Symbol)) : Type 0 where
  front : List Piece
  text : item_text kind item layout ≡ flat_map piece_octets front
  row : (more : List Piece) → IsEntry (depth_of kind (blocks_after item layout.blocks)) more
      → IsEntry (depth_of kind layout.blocks) (front ++ more)
  lexemes : (more : List Lexeme) → token_groups after more ≡ held_tokens after ++ more_tokens
      → token_groups held (flat_map lexemes_of front ++ more) ≡ held_tokens held ++ tokens
  apart : SetsApart (separator kind (layout_step kind item layout)) after

-- the pieces of items
record Splits (kind : DisplayKind) (items : List Item) (layout : Layout)
    (held : Option (List Symbol)) (tokens : List (List Symbol)) : Type 0 where
  row : List Piece
  entry : IsEntry (depth_of kind layout.blocks) row
  text : (layout_from kind items layout).text ≡ layout.text ++ flat_map piece_octets row
  lexemes : token_groups held (flat_map lexemes_of row) ≡ held_tokens held ++ tokens

joined : (kind : DisplayKind) (item : Item) (items : List Item) (layout : Layout)
    (held after : Option (List Symbol)) (tokens more_tokens : List (List Symbol))
    → Front kind item layout held tokens after more_tokens
    → Splits kind items (layout_step kind item layout) after more_tokens
    → Splits kind (item ∷ items) layout held tokens
joined kind item items layout held after tokens more_tokens f s = record {
  row = f.front ++ s.row;
  entry = f.row s.row s.entry;
  text = s.text ∙ ap (λ (t : List ℕ). layout.text ++ t ++ flat_map piece_octets s.row) f.text
      ∙ append_assoc layout.text (flat_map piece_octets f.front) (flat_map piece_octets s.row)
      ∙ sym (ap (λ (t : List ℕ). layout.text ++ t) (flat_map-append piece_octets f.front s.row));
  lexemes = ap (token_groups held) (flat_map-append lexemes_of f.front s.row)
      ∙ f.lexemes (flat_map lexemes_of s.row) s.lexemes;
}

-- an item that writes nothing
silent : (kind : DisplayKind) (item : Item) (layout : Layout) (held : Option (List Symbol))
    (tokens : List (List Symbol))
    → item_text kind item layout ≡ []
    → depth_of kind (blocks_after item layout.blocks) ≡ depth_of kind layout.blocks
    → separator kind (layout_step kind item layout) ≡ separator kind layout
    → SetsApart (separator kind layout) held
    → Front kind item layout held tokens held tokens
silent kind item layout held tokens nothing depth same apart = record {
  front = [];
  text = nothing;
  row = λ more h. subst (λ (d : ℕ). IsEntry d more) depth h;
  lexemes = λ more h. h;
  apart = subst (λ (t : List ℕ). SetsApart t held) (sym same) apart;
}

not_empty : {A : Type 0} (x : A) (xs : List A) → (length (x ∷ xs) == 0) ≡ false
not_empty x xs = grind (arith, nat_tests)

not_empty-append : (xs ys : List ℕ) → (length ys == 0) ≡ false → (length (xs ++ ys) == 0) ≡ false
not_empty-append [] ys h = h
not_empty-append (x ∷ xs) ys h = not_empty x (xs ++ ys)

-- the separator of a text with nothing behind
same_separator : (kind : DisplayKind) (text : List ℕ) (blocks more : ℕ) (after_comment : Bool)
    → separator kind (record { text = text ++ []; blocks = more; after_comment = after_comment })
    ≡ separator kind (record { text = text; blocks = blocks; after_comment = after_comment })
same_separator Simple text blocks more after_comment =
    ap (λ (t : List ℕ). separator Simple
    (record { text = t; blocks = blocks; after_comment = after_comment })) (append-nil text)
same_separator Tabbed text blocks more after_comment =
    ap (λ (t : List ℕ). separator Tabbed
    (record { text = t; blocks = blocks; after_comment = after_comment })) (append-nil text)
same_separator Multiline text blocks more after_comment =
    ap (λ (t : List ℕ). separator Multiline
    (record { text = t; blocks = blocks; after_comment = after_comment })) (append-nil text)

front-nothing : (kind : DisplayKind) (layout : Layout) (held : Option (List Symbol))
    (tokens : List (List Symbol))
    → SetsApart (separator kind layout) held → Front kind (Token []) layout held tokens held tokens
front-nothing kind layout held tokens apart =
    silent kind (Token []) layout held tokens refl refl
    (same_separator kind layout.text layout.blocks layout.blocks layout.after_comment) apart

-- a token
front-token : (kind : DisplayKind) (c : ℕ) (text : List ℕ) (layout : Layout)
    (held : Option (List Symbol)) (token : List Symbol) (tokens : List (List Symbol))
    → IsTokenText (c ∷ text) token → SetsApart (separator kind layout) held
    → Front kind (Token (c ∷ text)) layout held (token ∷ tokens) (Some token) tokens
front-token kind c text layout held token tokens is apart =
    let separated : List ℕ = separator kind layout in
    let parts : List Piece = is.0 in
    let written : item_text kind (Token (c ∷ text)) layout ≡ separated ++ (c ∷ text) =
    ap (λ (b : Bool). if b then [] else separated ++ (c ∷ text)) (not_empty c text) in
    let comment : (layout_step kind (Token (c ∷ text)) layout).after_comment ≡ false =
    ap (λ (b : Bool). if b then layout.after_comment else false) (not_empty c text) in
    let some : (length (layout.text ++ item_text kind (Token (c ∷ text)) layout) == 0) ≡ false =
    ap (λ (t : List ℕ). length (layout.text ++ t) == 0) written
    ∙ not_empty-append layout.text (separated ++ (c ∷ text))
    (not_empty-append separated (c ∷ text) (not_empty c text)) in
    record {
      front = blanks separated ++ parts;
      text = written ∙ ap (λ (t : List ℕ). separated ++ t) is.2
          ∙ ap (λ (t : List ℕ). t ++ flat_map piece_octets parts) (sym (spelled-blanks separated))
          ∙ sym (flat_map-append piece_octets (blanks separated) parts);
      row = λ more h. subst (λ (r : List Piece). IsEntry (depth_of kind layout.blocks) r)
          (sym (append_assoc (blanks separated) parts more))
          (IsEntry-blanks separated held (parts ++ more) (depth_of kind layout.blocks) apart
          (IsEntry-parts parts more (depth_of kind layout.blocks) is.1 h));
      lexemes = λ more h. ap (λ (l : List Lexeme). token_groups held (l ++ more))
          (flat_map-append lexemes_of (blanks separated) parts)
          ∙ ap (token_groups held)
          (append_assoc (flat_map lexemes_of (blanks separated)) (flat_map lexemes_of parts) more)
          ∙ grouped-blanks separated held (flat_map lexemes_of parts ++ more) apart
          ∙ ap (λ (l : List (List Symbol)). held_tokens held ++ l)
          (grouped-token (flat_map lexemes_of parts) more token (IsSolid-parts parts is.1) is.3
          ∙ h);
      apart = apart-behind kind (layout_step kind (Token (c ∷ text)) layout)
          (Some token) some comment;
    }

-- a bracket
front-bracket : (item : Item) (bracket : Piece) (layout : Layout) (held : Option (List Symbol))
    (tokens : List (List Symbol))
    → item_text Multiline item layout
    ≡ separator Multiline layout ++ flat_map piece_octets (bracket ∷ [])
    → lexemes_of bracket ≡ Gap ∷ []
    → ((more : List Piece) → IsEntry (blocks_after item layout.blocks) more
    → IsEntry layout.blocks (bracket ∷ more))
    → SetsApart (separator Multiline layout) held
    → Front Multiline item layout held tokens None tokens
front-bracket item bracket layout held tokens written gap row apart =
    let separated : List ℕ = separator Multiline layout in
    record {
      front = blanks separated ++ bracket ∷ [];
      text = written
          ∙ ap (λ (t : List ℕ). t ++ flat_map piece_octets (bracket ∷ []))
          (sym (spelled-blanks separated))
          ∙ sym (flat_map-append piece_octets (blanks separated) (bracket ∷ []));
      row = λ more h. subst (λ (r : List Piece). IsEntry layout.blocks r)
          (sym (append_assoc (blanks separated) (bracket ∷ []) more))
          (IsEntry-blanks separated held (bracket ∷ more) layout.blocks apart (row more h));
      lexemes = λ more h. ap (λ (l : List Lexeme). token_groups held (l ++ more))
          (flat_map-append lexemes_of (blanks separated) (bracket ∷ []))
          ∙ ap (token_groups held)
          (append_assoc (flat_map lexemes_of (blanks separated))
          (flat_map lexemes_of (bracket ∷ [])) more)
          ∙ grouped-blanks separated held (flat_map lexemes_of (bracket ∷ []) ++ more) apart
          ∙ ap (λ (l : List (List Symbol)). held_tokens held ++ l)
          (ap (λ (l : List Lexeme). token_groups None (l ++ [] ++ more)) gap ∙ h);
      apart = apart-none Multiline (layout_step Multiline item layout);
    }

front-begin : (kind : DisplayKind) (layout : Layout) (held : Option (List Symbol))
    (tokens : List (List Symbol))
    → SetsApart (separator kind layout) held
    → (after : Option (List Symbol)) × Front kind BlockBegin layout held tokens after tokens
front-begin Simple layout held tokens apart = (
  held,
  silent Simple BlockBegin layout held tokens refl refl
      (same_separator Simple layout.text layout.blocks (layout.blocks + 1) layout.after_comment)
      apart,
)
front-begin Tabbed layout held tokens apart = (
  held,
  silent Tabbed BlockBegin layout held tokens refl refl
      (same_separator Tabbed layout.text layout.blocks (layout.blocks + 1) layout.after_comment)
      apart,
)
front-begin Multiline layout held tokens apart = (
  None,
  front-bracket BlockBegin Opening layout held tokens refl refl
      (λ more h. subst (λ (d : ℕ). IsEntry d more) (add-one layout.blocks) h) apart,
)

-- where a block is open, its end is a closing bracket
closing-row : (blocks : ℕ) (more : List Piece) → 0 < blocks → IsEntry (blocks - 1) more
    → IsEntry blocks (Closing ∷ more)
closing-row zero more h k = absurd (omega arith)
closing-row (suc blocks) more h k =
    subst (λ (d : ℕ). IsEntry d more) (let e : suc blocks - 1 ≡ blocks = omega arith in e) k

front-end : (kind : DisplayKind) (layout : Layout) (held : Option (List Symbol))
    (tokens : List (List Symbol))
    → 0 < layout.blocks → SetsApart (separator kind layout) held
    → (after : Option (List Symbol)) × Front kind BlockEnd layout held tokens after tokens
front-end Simple layout held tokens within apart = (
  held,
  silent Simple BlockEnd layout held tokens refl refl
      (same_separator Simple layout.text layout.blocks (layout.blocks - 1) layout.after_comment)
      apart,
)
front-end Tabbed layout held tokens within apart = (
  held,
  silent Tabbed BlockEnd layout held tokens refl refl
      (same_separator Tabbed layout.text layout.blocks (layout.blocks - 1) layout.after_comment)
      apart,
)
front-end Multiline layout held tokens within apart = (
  None,
  front-bracket BlockEnd Closing layout held tokens refl refl
      (λ more h. closing-row layout.blocks more within h) apart,
)

-- ---- comments

-- what stands before a comment
abbrev before_comment : Bool → List ℕ
before_comment after_comment = if after_comment then [] else 32 ∷ []

apart-comment : (test after_comment : Bool) (held : Option (List Symbol))
    → SetsApart (if test then [] else (if after_comment then [] else 32 ∷ [])) held
    → SetsApart (before_comment after_comment) held
apart-comment test false held h = refl
apart-comment true true held h = h
apart-comment false true held h = h

comment-row : (blocks : ℕ) (text : List ℕ) (more : List Piece) → 0 < blocks → IsOneLine text
    → IsEntry blocks more → IsEntry blocks (pieces.Comment (32 ∷ text) ∷ LineEnd ∷ Blank 9 ∷ more)
comment-row zero text more h k e = absurd (omega arith)
comment-row (suc blocks) text more h k e = (((refl, k), refl), (refl, e))

front-comment-shown : (text : List ℕ) (layout : Layout) (held : Option (List Symbol))
    (tokens : List (List Symbol))
    → nat_lt 0 layout.blocks ≡ true → IsOneLine text → SetsApart (separator Multiline layout) held
    → Front Multiline (Comment text) layout held tokens None tokens
front-comment-shown text layout held tokens shown line apart =
    let before : List ℕ = before_comment layout.after_comment in
    let apart' : SetsApart before held =
    apart-comment (length layout.text == 0) layout.after_comment held apart in
    let comment : List Piece = pieces.Comment (32 ∷ text) ∷ LineEnd ∷ Blank 9 ∷ [] in
    let within : 0 < layout.blocks = grind (arith, nat_tests, shown) in
    record {
      front = blanks before ++ comment;
      text = ap (λ (b : Bool). if b then before ++ (59 ∷ 32 ∷ text ++ 10 ∷ 9 ∷ []) else []) shown
          ∙ ap (λ (t : List ℕ). t ++ (59 ∷ 32 ∷ text ++ 10 ∷ 9 ∷ [])) (sym (spelled-blanks before))
          ∙ sym (flat_map-append piece_octets (blanks before) comment);
      row = λ more h. subst (λ (r : List Piece). IsEntry layout.blocks r)
          (sym (append_assoc (blanks before) comment more))
          (IsEntry-blanks before held (comment ++ more) layout.blocks apart'
          (comment-row layout.blocks text more within line h));
      lexemes = λ more h. ap (λ (l : List Lexeme). token_groups held (l ++ more))
          (flat_map-append lexemes_of (blanks before) comment)
          ∙ ap (token_groups held)
          (append_assoc (flat_map lexemes_of (blanks before)) (flat_map lexemes_of comment) more)
          ∙ grouped-blanks before held (flat_map lexemes_of comment ++ more) apart'
          ∙ ap (λ (l : List (List Symbol)). held_tokens held ++ l) h;
      apart = apart-none Multiline (layout_step Multiline (Comment text) layout);
    }

front-comment-hidden : (text : List ℕ) (layout : Layout) (held : Option (List Symbol))
    (tokens : List (List Symbol))
    → nat_lt 0 layout.blocks ≡ false → SetsApart (separator Multiline layout) held
    → Front Multiline (Comment text) layout held tokens held tokens
front-comment-hidden text layout held tokens hidden apart =
    let before : List ℕ = before_comment layout.after_comment in
    let written : item_text Multiline (Comment text) layout ≡ [] =
    ap (λ (b : Bool). if b then before ++ (59 ∷ 32 ∷ text ++ 10 ∷ 9 ∷ []) else []) hidden in
    let comment : (layout_step Multiline (Comment text) layout).after_comment
    ≡ layout.after_comment = ap (λ (b : Bool). if b then true else layout.after_comment) hidden
    in
    let same : separator Multiline (layout_step Multiline (Comment text) layout)
    ≡ separator Multiline layout =
    ap (λ (t : List ℕ). separator Multiline
    (record {
      text = layout.text ++ t;
      blocks = layout.blocks;
      after_comment = (layout_step Multiline (Comment text) layout).after_comment;
    })) written
    ∙ ap (λ (b : Bool). separator Multiline
    (record { text = layout.text ++ []; blocks = layout.blocks; after_comment = b })) comment
    ∙ same_separator Multiline layout.text layout.blocks layout.blocks layout.after_comment in
    silent Multiline (Comment text) layout held tokens written refl same apart

front-comment : (kind : DisplayKind) (text : List ℕ) (layout : Layout)
    (held : Option (List Symbol)) (tokens : List (List Symbol))
    → IsOneLine text → SetsApart (separator kind layout) held → (shown : Bool)
    → nat_lt 0 layout.blocks ≡ shown
    → (after : Option (List Symbol)) × Front kind (Comment text) layout held tokens after tokens
front-comment Simple text layout held tokens line apart shown is = (
  held,
  silent Simple (Comment text) layout held tokens refl refl
      (same_separator Simple layout.text layout.blocks layout.blocks layout.after_comment) apart,
)
front-comment Tabbed text layout held tokens line apart shown is = (
  held,
  silent Tabbed (Comment text) layout held tokens refl refl
      (same_separator Tabbed layout.text layout.blocks layout.blocks layout.after_comment) apart,
)
front-comment Multiline text layout held tokens line apart true is =
    (None, front-comment-shown text layout held tokens is line apart)
front-comment Multiline text layout held tokens line apart false is =
    (held, front-comment-hidden text layout held tokens is apart)

-- ---- documents

-- all brackets are closed where no block is open
closed : (kind : DisplayKind) (blocks : ℕ) → Some blocks ≡ Some 0 → depth_of kind blocks ≡ 0
closed Simple blocks h = refl
closed Tabbed blocks h = refl
closed Multiline blocks h = cc

ends-held : (held : Option (List Symbol)) → token_groups held [] ≡ held_tokens held ++ []
ends-held None = refl
ends-held (Some token) = refl

ended : (items : List Item) (blocks : ℕ) → depth_after (BlockEnd ∷ items) blocks ≡ Some 0
    → (0 < blocks) × (depth_after items (blocks - 1) ≡ Some 0)
ended items zero h = absurd cc
ended items (suc blocks) h = (omega arith, ap (depth_after items) (omega arith) ∙ h)

splits : (kind : DisplayKind) (items : List Item) (layout : Layout) (held : Option (List Symbol))
    (tokens : List (List Symbol))
    → depth_after items layout.blocks ≡ Some 0 → HasOneLineComments items
    → AreTokenTexts items tokens
    → SetsApart (separator kind layout) held → Splits kind items layout held tokens
splits kind [] layout held [] d c a p = record {
  row = [];
  entry = closed kind layout.blocks d;
  text = sym (append-nil layout.text);
  lexemes = ends-held held;
}
splits kind [] layout held (token ∷ tokens) d c a p = absurd a
splits kind (Token [] ∷ items) layout held tokens d c a p =
    let f = front-nothing kind layout held tokens p in
    joined kind (Token []) items layout held held tokens tokens f
    (splits kind items (layout_step kind (Token []) layout) held tokens d c a f.apart)
splits kind (Token (x ∷ text) ∷ items) layout held [] d c a p = absurd a
splits kind (Token (x ∷ text) ∷ items) layout held (token ∷ tokens) d c a p =
    let f = front-token kind x text layout held token tokens a.0 p in
    joined kind (Token (x ∷ text)) items layout held (Some token) (token ∷ tokens) tokens f
    (splits kind items (layout_step kind (Token (x ∷ text)) layout)
    (Some token) tokens d c a.1 f.apart)
splits kind (Comment text ∷ items) layout held tokens d c a p =
    let f = front-comment kind text layout held tokens c.0 p (nat_lt 0 layout.blocks) refl in
    joined kind (Comment text) items layout held f.0 tokens tokens f.1
    (splits kind items (layout_step kind (Comment text) layout) f.0 tokens d c.1 a f.1.apart)
splits kind (BlockBegin ∷ items) layout held tokens d c a p =
    let f = front-begin kind layout held tokens p in
    joined kind BlockBegin items layout held f.0 tokens tokens f.1
    (splits kind items (layout_step kind BlockBegin layout) f.0 tokens
    (ap (depth_after items) (add-one layout.blocks) ∙ d) c a f.1.apart)
splits kind (BlockEnd ∷ items) layout held tokens d c a p =
    let e = ended items layout.blocks d in
    let f = front-end kind layout held tokens e.0 p in
    joined kind BlockEnd items layout held f.0 tokens tokens f.1
    (splits kind items (layout_step kind BlockEnd layout) f.0 tokens e.1 c a f.1.apart)

depth_of-zero : (kind : DisplayKind) → depth_of kind 0 ≡ 0
depth_of-zero Simple = refl
depth_of-zero Tabbed = refl
depth_of-zero Multiline = refl

pub layout_splits : LayoutSplits
layout_splits kind items tokens document are =
    let s = splits kind items empty_layout None tokens (document.closes 0) document.comments are
    (apart-none kind empty_layout) in
    (s.row, subst (λ (d : ℕ). IsEntry d s.row) (depth_of-zero kind) s.entry, s.text, sym s.lexemes)
