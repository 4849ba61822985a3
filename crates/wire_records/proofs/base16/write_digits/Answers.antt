use Rattle.std.proofs.Common.{ℕ, ap, slice_index, arith}
use Rattle.hex.proofs.Pairs.{encode_step, encode_done}
use Rattle.wire_records.proofs.base16.write_digits.Goals as goal

pub loop-i-preserved : goal.loop-i-preserved
loop-i-preserved c =
    let digit = λ (k : ℕ). slice_index c.args.table.now k in
    encode_step c.args.table.now c.args.octets.now c.loop-i.digits c.loop-i.i _ _ (omega arith)
    (omega arith) (ap digit c.from.ensures) (ap digit c.from-in-loop-i.ensures) c.loop-i.invariant

pub returns : goal.returns
returns c =
    encode_done _ _ _ c.loop-i.i (omega arith) (omega arith) c.loop-i.invariant
