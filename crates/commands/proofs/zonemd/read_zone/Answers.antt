-- There are at most as many lines as octets, and one.
use Rattle.std.proofs.Common.{length, length-drop, ap, arith}
use Rattle.input_lines.proofs.LineLemmas.{length-lines}
use Rattle.commands.proofs.zonemd.read_zone.Goals as goal

pub record_lines-requires : goal.record_lines-requires
record_lines-requires c =
    let input = c.args.input.now in
    let count = length-lines input in
    let all = ap length c.new-lines.ensures in
    let first = simp length-drop at (ap length c.name_line.ensures.rest) in
    let second = simp length-drop at (ap length c.zonemd_line.ensures.rest) in
    omega (arith, count, all, first, second)
