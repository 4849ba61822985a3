-- How a document is laid out as text, item by item.
use Rattle.std.specs.Prelude.{◌≡◌, ◌⊎◌, ℕ, zero, suc, ◌+◌, ◌-◌, Bool, true, false, ◌&&◌, not, IsTrue, nat_lt, ◌==◌, if◌then◌else◌, Option, Some, None, List, [], ◌∷◌, ◌++◌, length}
use Rattle.std.specs.List.{AllByRecursion}
use Rattle.text_spec.specs.declared.display_kind.DisplayKind.{DisplayKind}
use Rattle.text_spec.specs.declared.display_kind.DisplayKind.TheVariants.{Simple, Tabbed, Multiline}
use Rattle.text_spec.specs.declared.lexeme.Symbol.{Symbol}
use Rattle.text_spec.specs.Pieces.{IsTokenText}

-- what a document is made of
pub data Item : Type 0 where
  Token : (text : List ℕ) → Item
  Comment : (text : List ℕ) → Item
  BlockBegin : Item
  BlockEnd : Item

-- the text so far, the count of blocks that are begun and not ended, and whether the last thing
-- written is a comment
pub record Layout : Type 0 where
  pub text : List ℕ
  pub blocks : ℕ
  pub after_comment : Bool

abbrev pub empty_layout : Layout
empty_layout = record { text = []; blocks = 0; after_comment = false }

abbrev pub is_multiline : DisplayKind → Bool
is_multiline Simple = false
is_multiline Tabbed = false
is_multiline Multiline = true

-- what stands before a token
abbrev pub separator : DisplayKind → Layout → List ℕ
separator Simple layout = if length layout.text == 0 then [] else 32 ∷ []
separator Tabbed layout = if length layout.text == 0 then [] else 9 ∷ []
separator Multiline layout =
    if length layout.text == 0 then [] else (if layout.after_comment then [] else 32 ∷ [])

-- a comment in a block: `; `, its text, a line's end and a tab
abbrev pub comment_text : Layout → List ℕ → List ℕ
comment_text layout text =
    (if layout.after_comment then [] else 32 ∷ []) ++ (59 ∷ 32 ∷ text ++ 10 ∷ 9 ∷ [])

-- whether a comment is written
abbrev pub shows_comment : DisplayKind → Layout → Bool
shows_comment kind layout = is_multiline kind && nat_lt 0 layout.blocks

-- what an item writes; a token without a text writes nothing
abbrev pub item_text : DisplayKind → Item → Layout → List ℕ
item_text kind (Token text) layout = if length text == 0 then [] else separator kind layout ++ text
item_text kind (Comment text) layout = if shows_comment kind layout then comment_text layout text
    else []
item_text kind BlockBegin layout = if is_multiline kind then separator kind layout ++ 40 ∷ []
    else []
item_text kind BlockEnd layout = if is_multiline kind then separator kind layout ++ 41 ∷ [] else []

-- how many blocks are begun and not ended behind an item
abbrev pub blocks_after : Item → ℕ → ℕ
blocks_after (Token text) blocks = blocks
blocks_after (Comment text) blocks = blocks
blocks_after BlockBegin blocks = blocks + 1
blocks_after BlockEnd blocks = blocks - 1

-- whether the last thing written is a comment, behind an item
abbrev pub after_comment_after : DisplayKind → Item → Layout → Bool
after_comment_after kind (Token text) layout = if length text == 0 then layout.after_comment
    else false
after_comment_after kind (Comment text) layout =
    if shows_comment kind layout then true else layout.after_comment
after_comment_after kind BlockBegin layout =
    if is_multiline kind then false else layout.after_comment
after_comment_after kind BlockEnd layout = if is_multiline kind then false else layout.after_comment

-- one step for each item
abbrev pub layout_step : DisplayKind → Item → Layout → Layout
layout_step kind item layout = record {
  text = layout.text ++ item_text kind item layout;
  blocks = blocks_after item layout.blocks;
  after_comment = after_comment_after kind item layout;
}

abbrev pub layout_from : DisplayKind → List Item → Layout → Layout
layout_from kind [] layout = layout
layout_from kind (item ∷ items) layout = layout_from kind items (layout_step kind item layout)

-- the text of a document
abbrev pub laid_out_text : DisplayKind → List Item → List ℕ
laid_out_text kind items = (layout_from kind items empty_layout).text

-- ---- documents

-- the count of open blocks behind items; none where one is ended that isn't begun
abbrev pub depth_after : List Item → ℕ → Option ℕ
depth_after [] blocks = Some blocks
depth_after (Token text ∷ items) blocks = depth_after items blocks
depth_after (Comment text ∷ items) blocks = depth_after items blocks
depth_after (BlockBegin ∷ items) blocks = depth_after items (suc blocks)
depth_after (BlockEnd ∷ items) zero = None
depth_after (BlockEnd ∷ items) (suc blocks) = depth_after items blocks

-- the blocks that are begun, and no other, are ended
abbrev pub ClosesItsBlocks : List Item → Type 0
ClosesItsBlocks items = (blocks : ℕ) → depth_after items blocks ≡ Some blocks

-- a text without a line's end
abbrev pub IsOneLine : List ℕ → Type 0
IsOneLine text = AllByRecursion (λ c. IsTrue (not (c == 10))) text

-- each comment is one line
abbrev pub HasOneLineComments : List Item → Type 0
HasOneLineComments [] = Unit {0}
HasOneLineComments (Comment text ∷ items) = IsOneLine text × HasOneLineComments items
HasOneLineComments (item ∷ items) = HasOneLineComments items

-- what a value's items have to be
pub record IsDocument (items : List Item) : Type 0 where
  pub closes : ClosesItsBlocks items
  pub comments : HasOneLineComments items

-- each token's text is wholly that of the token beside it; a token without a text is no token of
-- the document
abbrev pub AreTokenTexts : List Item → List (List Symbol) → Type 0
AreTokenTexts [] [] = Unit {0}
AreTokenTexts [] (token ∷ tokens) = ⊥
AreTokenTexts (Token [] ∷ items) tokens = AreTokenTexts items tokens
AreTokenTexts (Token (c ∷ text) ∷ items) [] = ⊥
AreTokenTexts (Token (c ∷ text) ∷ items) (token ∷ tokens) =
    IsTokenText (c ∷ text) token × AreTokenTexts items tokens
AreTokenTexts (item ∷ items) tokens = AreTokenTexts items tokens

-- ---- what a formatter stands for

-- the kind, and what is laid out so far
pub record Sheet : Type 0 where
  pub kind : DisplayKind
  pub layout : Layout

-- a formatter behind these items
abbrev pub laid_out : Sheet → List Item → Sheet
laid_out sheet items =
    record { kind = sheet.kind; layout = layout_from sheet.kind items sheet.layout }

-- a prefix of the items was laid out
abbrev pub StopsWithin : Sheet → List Item → Sheet → Type 0
StopsWithin old [] new = new ≡ old
StopsWithin old (item ∷ items) new = (new ≡ old) ⊎ StopsWithin (laid_out old (item ∷ [])) items new
