use Rattle.std.proofs.Common.{◌≡◌, ℕ, List, [], ◌++◌, sym, ap, ◌∙◌, rules, append_assoc, append-nil, refl}
use Rattle.std.proofs.Output.{has_written_append, has_written_of_eq}
use Rattle.std.proofs.lemmas.List.{nil_from_length}
use Rattle.wire_records.specs.Texts.{base16_in}
use Rattle.wire_records.proofs.Digits.{front_digits, front_text, base16_in-append, base16_in-nil}
use Rattle.wire_records.proofs.base16.Base16Display.fmt.Goals as goal

pub unreachable-requires : goal.unreachable-requires
unreachable-requires g c =
    c.in_default.ensures.cases.0
    (front_text c.args.self.now.is_upper c.in-Some.chunk.now c.write_digits.new.digits _
    (rw c.digits_in-table.ensures at c.write_digits.ensures))

pub loop-chunk-init : goal.loop-chunk-init
loop-chunk-init g c = (search rules, tt, search rules, λ plain. ([], search rules, search rules))

pub loop-chunk-preserved : goal.loop-chunk-preserved
loop-chunk-preserved g c =
    let up = c.args.self.now.is_upper in
    let chunk = c.in-Some.chunk.now in
    let steps = c.in-Some.ensures.steps in
    let size = c.loop-chunk.invariant.2 in
    let shown : c.in-Ok.text.now ≡ base16_in up chunk =
    c.in-Ok.ensures.cases.0
    ∙ front_digits up chunk c.write_digits.new.digits _
    (rw c.digits_in-table.ensures at c.write_digits.ensures) in (
      search rules,
      tt,
      steps.0 ∙ size,
      λ plain.
          let so_far = c.loop-chunk.invariant.3 plain in (
            so_far.0 ++ c.in-Ok.text.now,
            has_written_append _ _ _ _ _ _ so_far.1
                (c.in_ok-write_str.ensures.writes so_far.1.plain refl),
            append_assoc so_far.0 _ _
                ∙ ap (λ (t : List ℕ). so_far.0 ++ t)
                (rw shown (base16_in-append up chunk _) ∙ ap (base16_in up) (sym steps.1.0))
                ∙ so_far.2,
          ),
    )

pub returns-clause-writes : goal.returns-clause-writes
returns-clause-writes g c = λ plain _.
    let so_far = c.loop-chunk.invariant.3 plain in
    let none = nil_from_length _ c.in-None.ensures.steps.1.0 in
    has_written_of_eq _ _ _ _ _
    (rw (none, base16_in-nil, append-nil) at so_far.2) so_far.1
