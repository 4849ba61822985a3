-- What a call leaves that writes to a formatter.
use Rattle.std.specs.Prelude.{◌≡◌, ℕ, false, if◌then◌else◌, Result, OnOk, OnErr, List, [], ◌++◌}
use Rattle.text_spec.specs.Layouts.{Item, Sheet, laid_out, StopsWithin, is_multiline, separator}

-- The items are laid out behind what was. Where they are not, nothing changed.
pub record Writes {X E : Type 0} (old : Sheet) (items : List Item) (new : Sheet)
    (result : Result X E) : Type 0 where
  pub ok : OnOk result (new ≡ laid_out old items)
  pub err : OnErr result (new ≡ old)

-- The items are laid out behind what was. Where they are not all, a prefix of them is. The kind
-- stays.
pub record Shows {X E : Type 0} (old : Sheet) (items : List Item) (new : Sheet)
    (result : Result X E) : Type 0 where
  pub ok : OnOk result (new ≡ laid_out old items)
  pub err : OnErr result (StopsWithin old items new)
  pub kind : new.kind ≡ old.kind

-- a bracket in Multiline, and so many open blocks
abbrev pub with_bracket : Sheet → List ℕ → ℕ → Sheet
with_bracket sheet bracket blocks = record {
  kind = sheet.kind;
  layout = record {
    text = sheet.layout.text
        ++ (if is_multiline sheet.kind then separator sheet.kind sheet.layout ++ bracket else []);
    blocks = blocks;
    after_comment = if is_multiline sheet.kind then false else sheet.layout.after_comment;
  };
}
