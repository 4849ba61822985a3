use Rattle.std.proofs.Common.{◌≡◌, List, ℕ, ◌++◌, refl, sym, ap, ◌∙◌, append_assoc, append-nil, arith}
use Rattle.std.proofs.Output.{has_written_append, has_written_of_eq}
use Rattle.std.proofs.lemmas.List.{nil_from_length}
use Rattle.std.proofs.lemmas.List.Sums.{prefix_len-le-length}
use Rattle.std.specs.List.{flat_map}
use Rattle.name_spec.specs.Printed.{printed_octet}
use Rattle.wire_base.specs.PrintedIn.{is_bare, specials}
use Rattle.wire_base.proofs.PrintedTexts.{parted}
use Rattle.wire_base.proofs.printed.write_octets.Goals as goal

pub split_at-requires : goal.split_at-requires
split_at-requires g c =
    omega (
      arith,
      c.bare_len.ensures,
      prefix_len-le-length (is_bare c.args.in_name) c.loop-first.rest.now,
    )

pub write_ascii-requires : goal.write_ascii-requires
write_ascii-requires g c =
    (parted c.args.in_name c.loop-first.rest.now c.split_at.result.0.now c.split_at.result.1.now
    c.bare_len.result c.bare_len.ensures c.split_at.ensures.front c.split_at.ensures.back).is_ascii

pub returns-in_default : goal.returns-in_default
returns-in_default g c = λ plain ok.
    let front = c.loop-first.invariant plain in
    let print = printed_octet (specials c.args.in_name) in
    let parts = parted c.args.in_name c.loop-first.rest.now c.split_at.result.0.now
    c.split_at.result.1.now c.bare_len.result c.bare_len.ensures c.split_at.ensures.front
    c.split_at.ensures.back in
    let last : c.split_at.result.0.now ≡ flat_map print c.loop-first.rest.now =
    sym (append-nil c.split_at.result.0.now)
    ∙ ap (λ (t : List ℕ). c.split_at.result.0.now ++ flat_map print t)
    (sym (nil_from_length c.split_at.result.1.now c.in_default.ensures.cases))
    ∙ parts.text in
    has_written_of_eq _ _ _ _ _
    (ap (λ (t : List ℕ). front.text ++ t) last ∙ front.whole_is)
    (has_written_append _ _ _ _ _ _ front.wrote
    (c.in_ok-write_ascii.ensures front.wrote.plain refl))

pub write_escape-requires : goal.write_escape-requires
write_escape-requires g c =
    (parted c.args.in_name c.loop-first.rest.now c.split_at.result.0.now c.split_at.result.1.now
    c.bare_len.result c.bare_len.ensures c.split_at.ensures.front c.split_at.ensures.back).stops
    c.in-Some.first.now c.in-Some.behind.now c.in-Some.ensures.cases.0

pub loop-first-preserved : goal.loop-first-preserved
loop-first-preserved g c = λ plain.
    let front = c.loop-first.invariant plain in
    let print = printed_octet (specials c.args.in_name) in
    let bare = c.split_at.result.0.now in
    let first = c.in-Some.first.now in
    let behind = c.in-Some.behind.now in
    let parts = parted c.args.in_name c.loop-first.rest.now c.split_at.result.0.now
    c.split_at.result.1.now c.bare_len.result c.bare_len.ensures c.split_at.ensures.front
    c.split_at.ensures.back in
    let bare_written = has_written_append _ _ _ _ _ _ front.wrote
    (c.in_ok-write_ascii.ensures front.wrote.plain refl) in
    record {
      text = (front.text ++ bare) ++ print first;
      wrote = has_written_append _ _ _ _ _ _ bare_written
          (c.in_ok-write_escape.ensures bare_written.plain refl);
      whole_is =
          append_assoc (front.text ++ bare) (print first) (flat_map print behind)
          ∙ append_assoc front.text bare (print first ++ flat_map print behind)
          ∙ ap (λ (t : List ℕ). front.text ++ t)
          (ap (λ (t : List ℕ). bare ++ flat_map print t) (sym c.in-Some.ensures.cases.0)
          ∙ parts.text)
          ∙ front.whole_is;
    }
