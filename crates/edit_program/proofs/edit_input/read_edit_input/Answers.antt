-- An input that isn't too long has no more lines than octets, and one.
use Rattle.std.proofs.Common.{◌≡◌, length, drop, ap, ◌∙◌, arith}
use Rattle.std.proofs.lemmas.List.{length-drop}
use Rattle.input_lines.specs.Lines.{lines}
use Rattle.input_lines.proofs.LineLemmas.{length-lines}
use Rattle.edit_program.proofs.edit_input.read_edit_input.Goals as goal

pub push_lines-requires : goal.push_lines-requires
push_lines-requires c =
    let left : length c.octets_line.new.input ≡ length (drop 1 (drop 1 (lines c.args.input.now))) =
    ap length (c.octets_line.ensures.rest
    ∙ ap (drop 1) (c.bounds_line.ensures.rest ∙ ap (drop 1) c.new-lines.ensures)) in
    omega (
      arith,
      left,
      length-lines c.args.input.now,
      length-drop 1
          (drop 1 (lines c.args.input.now)),
      length-drop 1 (lines c.args.input.now),
    )
