use Rattle.std.proofs.Common.{◌≡◌, ◌*◌, ◌++◌, take, drop}
use Rattle.hex.specs.Hex.{encode_with}
use Rattle.wire_records.proofs.base16.write_digits.Given as goal

-- the octets before this one are written
abbrev pub invariant-loop-i : goal.invariant-loop-i
invariant-loop-i l =
    take (2 * l.i) l.digits ++ encode_with l.table (drop l.i l.octets) ≡ encode_with l.table l.octets
