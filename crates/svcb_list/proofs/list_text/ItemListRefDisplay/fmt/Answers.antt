use Rattle.std.proofs.Common.{◌≡◌, [], ◌∷◌, ◌++◌, map, true, rules, refl, sym, ap, ◌∙◌}
use Rattle.std.proofs.Output.{has_written_append, has_written_of_eq}
use Rattle.svcb_spec.specs.PrintedValues.{value_printed, key_name, with_items}
use Rattle.svcb_list.proofs.ListTexts.{commas_and, first_then_others, one_more}
use Rattle.svcb_list.proofs.list_text.ItemListRefDisplay.fmt.Goals as goal

pub loop-item-init : goal.loop-item-init
loop-item-init g c = λ plain.
    let items = g.T.ListItems.items in
    let octets = c.args.self.now.slice.now in
    let key = key_name g.T.ListType.key in
    let first = g.T.ListItems.text (g.T.ListItems.seen c.in-Some.first) in
    let others = map g.T.ListItems.text (items c.into_iter-item-iterator.result) in
    let laws = g.met.T.ListItems c.lifetimes (search rules) in
    let items_are : map g.T.ListItems.text (items octets) ≡ first ∷ others =
    ap (λ o. map g.T.ListItems.text (items o)) (sym c.iter-items.ensures)
    ∙ ap (map g.T.ListItems.text) c.in-Some.ensures.steps
    ∙ ap (λ o. first ∷ map g.T.ListItems.text (items o))
    (sym c.into_iter-item-iterator.ensures.into_iter_gives) in
    let value_is : value_printed (g.T.ListType.value octets)
    ≡ with_items key (map g.T.ListItems.text (items octets)) =
    ap value_printed (laws.lists octets) ∙ laws.prints (items octets) in
    let keyed = has_written_of_eq _ _ _ (key ++ 61 ∷ []) _
    (ap (λ n. key_name n ++ 61 ∷ []) c.key.ensures)
    (c.in_ok-write.ensures.writes plain (refl {a = true})) in
    record {
      text = (key ++ 61 ∷ []) ++ first;
      wrote = has_written_append _ _ _ _ _ _ keyed
          (c.in_ok-write_item.ensures keyed.plain (refl {a = true}));
      whole_is = first_then_others key first others ∙ ap (with_items key) (sym items_are)
          ∙ sym value_is;
    }

pub loop-item-preserved : goal.loop-item-preserved
loop-item-preserved g c = λ plain.
    let front = c.loop-item.invariant plain in
    let item = g.T.ListItems.text (g.T.ListItems.seen c.in-Some-item.item) in
    let rest = map g.T.ListItems.text (g.T.ListItems.items c.next-in-loop-item.new.self) in
    let comma = c.in_ok-write-2.ensures.writes front.wrote.plain (refl {a = true}) in
    record {
      text = (front.text ++ 44 ∷ []) ++ item;
      wrote = has_written_append _ _ _ _ _ _ (has_written_append _ _ _ _ _ _ front.wrote comma)
          (c.in_ok-write_item-2.ensures comma.plain (refl {a = true}));
      whole_is =
          one_more front.text item (commas_and rest)
          ∙ ap (λ xs. front.text ++ commas_and (map g.T.ListItems.text xs))
          (sym c.in-Some-item.ensures.steps)
          ∙ front.whole_is;
    }
