-- A document that holds another: what a call that lays out a part means for the whole. Offered to
-- the crates above: `shows`, `shows_behind`, `shows_stopped` and `same_blocks`.
use Rattle.std.proofs.Common.{◌≡◌, ◌∙◌, sym, ap, subst, List, ◌++◌, Result, Ok, Err}
use Rattle.std.specs.Prelude.{IsErr}
use Rattle.std.proofs.lemmas.Result.{on_ok_weaker, on_err_weaker}
use Rattle.text_spec.specs.Layouts.{Item, Sheet, laid_out, IsDocument, StopsWithin}
use Rattle.text_spec.specs.LayoutLaws.{laid_out-append, StopsWithin-first, StopsWithin-second, StopsWithin-start, blocks-layout_from}
use Rattle.dns_text.specs.Writing.{Writes, Shows}

-- what writes all or nothing shows it
pub shows : {X E : Type 0} (old : Sheet) (items : List Item) (new : Sheet) (result : Result X E)
    → Writes old items new result → Shows old items new result
shows old items new (Ok x) h =
    record { ok = h.ok; err = tt; kind = ap (λ (s : Sheet). s.kind) h.ok }
shows old items new (Err e) h =
    record {
      ok = tt;
      err = subst (λ (s : Sheet). StopsWithin old items s) (sym h.err) (StopsWithin-start old items);
      kind = ap (λ (s : Sheet). s.kind) h.err;
    }

-- a part behind what is laid out
pub shows_behind : {X E : Type 0} (old : Sheet) (first more : List Item) (mid new : Sheet)
    (result : Result X E) → mid ≡ laid_out old first → Shows mid more new result
    → Shows old (first ++ more) new result
shows_behind old first more mid new result m h = record {
  ok = on_ok_weaker result
      (λ e. e ∙ ap (λ (s : Sheet). laid_out s more) m ∙ laid_out-append old first more) h.ok;
  err = on_err_weaker result
      (λ e. StopsWithin-second old first more new
      (subst (λ (s : Sheet). StopsWithin s more new) m e)) h.err;
  kind = h.kind ∙ ap (λ (s : Sheet). s.kind) m;
}

-- a part that is refused, with more to come; `result` hands the refusal on
pub shows_stopped : {X Y E F : Type 0} (old : Sheet) (items more : List Item) (new : Sheet)
    (error : E) (result : Result Y F) → IsErr result → Shows {X = X} old items new (Err error)
    → Shows old (items ++ more) new result
shows_stopped old items more new error (Ok y) refused h = absurd cc
shows_stopped old items more new error (Err f) refused h = record {
  ok = tt;
  err = StopsWithin-first old items more new h.err;
  kind = h.kind;
}

-- a document leaves as many blocks open as were
pub same_blocks : (old : Sheet) (items : List Item) (new : Sheet) → IsDocument items
    → new ≡ laid_out old items → new.layout.blocks ≡ old.layout.blocks
same_blocks old items new document h =
    ap (λ (s : Sheet). s.layout.blocks) h
    ∙ blocks-layout_from old.kind items old.layout old.layout.blocks
    (document.closes old.layout.blocks)
