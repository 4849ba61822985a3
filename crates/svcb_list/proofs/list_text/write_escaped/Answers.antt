use Rattle.std.proofs.Common.{◌∷◌, [], List, ℕ, ◌++◌, not, true, refl, ap, ◌∙◌, append_assoc, arith}
use Rattle.std.proofs.Output.{has_written_append, has_written_of_eq}
use Rattle.std.proofs.lemmas.List.{nil_from_length}
use Rattle.std.proofs.lemmas.List.Sums.{prefix_len-le-length}
use Rattle.name_spec.specs.Printed.{printed_octets}
use Rattle.svcb_spec.specs.ListTexts.{escaped_item, is_escaped_in_item}
use Rattle.svcb_list.proofs.ListTexts.{parted}
use Rattle.svcb_list.proofs.list_text.write_escaped.Goals as goal

pub split_at-requires : goal.split_at-requires
split_at-requires g c =
    omega (
      arith,
      c.plain_len.ensures,
      prefix_len-le-length (λ c. not (is_escaped_in_item c)) c.loop-first.rest.now,
    )

pub returns-in_default : goal.returns-in_default
returns-in_default g c = λ plain ok.
    let front = c.loop-first.invariant plain in
    let parts = parted c.loop-first.rest.now c.split_at.result.0.now c.split_at.result.1.now
    c.plain_len.result c.plain_len.ensures c.split_at.ensures.front c.split_at.ensures.back in
    has_written_of_eq _ _ _ _ _
    (ap (λ (t : List ℕ). front.text ++ t)
    (parts.last (nil_from_length c.split_at.result.1.now c.in_default.ensures.cases))
    ∙ front.whole_is)
    (has_written_append _ _ _ _ _ _ front.wrote
    (has_written_of_eq _ _ _ _ _ (ap printed_octets c.new.ensures)
    (c.in_ok-write.ensures.writes front.wrote.plain (refl {a = true}))))

pub loop-first-preserved : goal.loop-first-preserved
loop-first-preserved g c = λ plain.
    let front = c.loop-first.invariant plain in
    let bare = printed_octets c.split_at.result.0.now in
    let first = c.in-Some.first.now in
    let others = printed_octets (escaped_item c.in-Some.behind.now) in
    let parts = parted c.loop-first.rest.now c.split_at.result.0.now c.split_at.result.1.now
    c.plain_len.result c.plain_len.ensures c.split_at.ensures.front c.split_at.ensures.back in
    let bare_written = has_written_append _ _ _ _ _ _ front.wrote
    (has_written_of_eq _ _ _ _ _ (ap printed_octets c.new.ensures)
    (c.in_ok-write.ensures.writes front.wrote.plain (refl {a = true}))) in
    record {
      text = (front.text ++ bare) ++ printed_octets (92 ∷ first ∷ []);
      wrote = has_written_append _ _ _ _ _ _ bare_written
          (has_written_of_eq _ _ _ _ _ (ap printed_octets c.new-in-loop-first.ensures)
          (c.in_ok-write-2.ensures.writes bare_written.plain (refl {a = true})));
      whole_is =
          append_assoc (front.text ++ bare) (printed_octets (92 ∷ first ∷ [])) others
          ∙ append_assoc front.text bare (printed_octets (92 ∷ first ∷ []) ++ others)
          ∙ ap (λ (t : List ℕ). front.text ++ t)
          (parts.more first c.in-Some.behind.now c.in-Some.ensures.cases.0)
          ∙ front.whole_is;
    }
