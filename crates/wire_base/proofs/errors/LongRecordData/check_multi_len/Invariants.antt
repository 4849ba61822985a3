use Rattle.std.proofs.Common.{◌≡◌, ◌+◌, ◌≤◌, sum, drop}
use Rattle.wire_base.proofs.errors.LongRecordData.check_multi_len.Given as goal

abbrev pub invariant-loop-len : goal.invariant-loop-len
invariant-loop-len l = record {
  total_is : l.total + sum (drop l.len-index l.lens) ≡ sum l.lens;
  fits : l.total ≤ 65535;
}
