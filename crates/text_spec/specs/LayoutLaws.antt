-- Documents one behind the other. An `impl` that lays out a value made of others cites these for
-- its law.
use Rattle.std.specs.Prelude.{◌≡◌, ℕ, zero, suc, ◌-◌, Some, List, [], ◌∷◌, ◌++◌, map, refl}
use Rattle.std.proofs.Common.{ap, sym, ◌∙◌, inl, inr, arith, add-one}
use Rattle.text_spec.specs.declared.display_kind.DisplayKind.{DisplayKind}
use Rattle.text_spec.specs.Layouts.{Item, Token, Comment, BlockBegin, BlockEnd, Layout, Sheet, layout_step, layout_from, laid_out, depth_after, HasOneLineComments, IsDocument, StopsWithin}

pub depth_after-append : (items more : List Item) (b c : ℕ) → depth_after items b ≡ Some c
    → depth_after (items ++ more) b ≡ depth_after more c
depth_after-append [] more b c h = ap (depth_after more) (let e : b ≡ c = cc in e)
depth_after-append (Token text ∷ items) more b c h = depth_after-append items more b c h
depth_after-append (Comment text ∷ items) more b c h = depth_after-append items more b c h
depth_after-append (BlockBegin ∷ items) more b c h = depth_after-append items more (suc b) c h
depth_after-append (BlockEnd ∷ items) more zero c h = absurd cc
depth_after-append (BlockEnd ∷ items) more (suc b) c h = depth_after-append items more b c h

pub HasOneLineComments-append : (items more : List Item) → HasOneLineComments items
    → HasOneLineComments more → HasOneLineComments (items ++ more)
HasOneLineComments-append [] more h k = k
HasOneLineComments-append (Token text ∷ items) more h k = HasOneLineComments-append items more h k
HasOneLineComments-append (Comment text ∷ items) more h k =
    (h.0, HasOneLineComments-append items more h.1 k)
HasOneLineComments-append (BlockBegin ∷ items) more h k = HasOneLineComments-append items more h k
HasOneLineComments-append (BlockEnd ∷ items) more h k = HasOneLineComments-append items more h k

-- nothing
pub document-nil : IsDocument []
document-nil = record { closes = λ b. refl; comments = tt }

-- a token, and a document
pub document-token : (text : List ℕ) (items : List Item) → IsDocument items
    → IsDocument (Token text ∷ items)
document-token text items h = record { closes = h.closes; comments = h.comments }

-- tokens alone
pub document-tokens : (texts : List (List ℕ)) → IsDocument (map (λ text. Token text) texts)
document-tokens [] = document-nil
document-tokens (text ∷ texts) =
    document-token text (map (λ t. Token t) texts) (document-tokens texts)

-- two documents
pub document-append : (items more : List Item) → IsDocument items → IsDocument more
    → IsDocument (items ++ more)
document-append items more h k = record {
  closes = λ b. depth_after-append items more b b (h.closes b) ∙ k.closes b;
  comments = HasOneLineComments-append items more h.comments k.comments;
}

-- a document in a block
pub document-block : (items : List Item) → IsDocument items
    → IsDocument (BlockBegin ∷ items ++ BlockEnd ∷ [])
document-block items h = record {
  closes = λ b. depth_after-append items (BlockEnd ∷ []) (suc b) (suc b) (h.closes (suc b));
  comments = HasOneLineComments-append items (BlockEnd ∷ []) h.comments tt;
}

pub layout_from-append : (kind : DisplayKind) (items more : List Item) (layout : Layout)
    → layout_from kind (items ++ more) layout
    ≡ layout_from kind more (layout_from kind items layout)
layout_from-append kind [] more layout = refl
layout_from-append kind (item ∷ items) more layout =
    layout_from-append kind items more (layout_step kind item layout)

pub laid_out-append : (sheet : Sheet) (items more : List Item)
    → laid_out (laid_out sheet items) more ≡ laid_out sheet (items ++ more)
laid_out-append sheet items more =
    ap (λ (l : Layout). record { kind = sheet.kind; layout = l })
    (sym (layout_from-append sheet.kind items more sheet.layout))

-- what stops within the first of two documents stops within both
pub StopsWithin-first : (old : Sheet) (items more : List Item) (new : Sheet)
    → StopsWithin old items new → StopsWithin old (items ++ more) new
StopsWithin-first old [] [] new h = h
StopsWithin-first old [] (item ∷ more) new h = inl h
StopsWithin-first old (item ∷ items) more new h =
    elim h [
      | inl e ↦ inl e
      | inr s ↦ inr (StopsWithin-first (laid_out old (item ∷ [])) items more new s)
    ]

-- and so does what stops within the second
pub StopsWithin-second : (old : Sheet) (items more : List Item) (new : Sheet)
    → StopsWithin (laid_out old items) more new → StopsWithin old (items ++ more) new
StopsWithin-second old [] more new h = h
StopsWithin-second old (item ∷ items) more new h =
    inr (StopsWithin-second (laid_out old (item ∷ [])) items more new h)

-- nothing of the items was laid out
pub StopsWithin-start : (old : Sheet) (items : List Item) → StopsWithin old items old
StopsWithin-start old [] = refl
StopsWithin-start old (item ∷ items) = inl refl

-- the count of open blocks behind items that are laid out
pub blocks-layout_from : (kind : DisplayKind) (items : List Item) (layout : Layout) (c : ℕ)
    → depth_after items layout.blocks ≡ Some c → (layout_from kind items layout).blocks ≡ c
blocks-layout_from kind [] layout c h = cc
blocks-layout_from kind (Token text ∷ items) layout c h =
    blocks-layout_from kind items (layout_step kind (Token text) layout) c h
blocks-layout_from kind (Comment text ∷ items) layout c h =
    blocks-layout_from kind items (layout_step kind (Comment text) layout) c h
blocks-layout_from kind (BlockBegin ∷ items) layout c h =
    blocks-layout_from kind items (layout_step kind BlockBegin layout) c
    (ap (depth_after items) (add-one layout.blocks) ∙ h)
blocks-layout_from kind (BlockEnd ∷ items) layout c h =
    blocks-layout_from kind items (layout_step kind BlockEnd layout) c
    (ended items layout.blocks c h)
  where
    ended : (items : List Item) (b c : ℕ) → depth_after (BlockEnd ∷ items) b ≡ Some c
        → depth_after items (b - 1) ≡ Some c
    ended items zero c h = absurd cc
    ended items (suc b) c h = ap (depth_after items) (omega arith) ∙ h
