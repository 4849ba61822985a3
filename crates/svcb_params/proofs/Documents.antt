-- Documents that are laid out item by item.
use Rattle.std.proofs.Common.{◌≡◌, List, [], ◌∷◌, refl, sym, subst, inr}
use Rattle.text_spec.specs.Layouts.{Item, Sheet, laid_out, StopsWithin}
use Rattle.text_spec.specs.LayoutLaws.{StopsWithin-start}

-- of a document that is laid out from `old` on, the rest is left
pub record LaysOut (old : Sheet) (items : List Item) (now : Sheet) (rest : List Item) : Type 0 where
  pub ok : laid_out now rest ≡ laid_out old items
  pub err : (new : Sheet) → StopsWithin now rest new → StopsWithin old items new
  pub kind : now.kind ≡ old.kind

pub nothing_yet : (old : Sheet) (items : List Item) → LaysOut old items old items
nothing_yet old items = record { ok = refl; err = λ new stops. stops; kind = refl }

-- one more item
pub next_laid : (old : Sheet) (items : List Item) (now : Sheet) (item : Item) (rest : List Item)
    (new : Sheet)
    → LaysOut old items now (item ∷ rest) → new ≡ laid_out now (item ∷ [])
    → LaysOut old items new rest
next_laid old items now item rest new lays is =
    let next : LaysOut old items (laid_out now (item ∷ [])) rest = record {
      ok = lays.ok;
      err = λ s stops. lays.err s (inr stops);
      kind = lays.kind;
    } in
    subst (λ s. LaysOut old items s rest) (sym is) next

-- the last item
pub last_laid : (old : Sheet) (items : List Item) (now : Sheet) (item : Item) (new : Sheet)
    → LaysOut old items now (item ∷ []) → new ≡ laid_out now (item ∷ []) → new ≡ laid_out old items
last_laid old items now item new lays is = (next_laid old items now item [] new lays is).ok

-- nothing more
pub stops_here : (old : Sheet) (items : List Item) (now : Sheet) (rest : List Item) (new : Sheet)
    → LaysOut old items now rest → new ≡ now → StopsWithin old items new
stops_here old items now rest new lays is =
    subst (StopsWithin old items) (sym is) (lays.err now (StopsWithin-start now rest))
