use Rattle.std.proofs.Common.{◌≡◌, ◌+◌, ◌≤◌, ◌++◌, length, vec_len}
use Rattle.std.specs.Vec.{vec_capacity}
use Rattle.name_spec.specs.Names.{name_wire}
use Rattle.wire_base.proofs.name.ParsedName.compose.Given as goal

abbrev pub invariant-loop-label : goal.invariant-loop-label
invariant-loop-label l = record {
  written : l.target.items ++ name_wire l.label-iterator
      ≡ l.fn.target.items ++ name_wire l.self.labels;
  room : vec_len l.target + length (name_wire l.label-iterator) ≤ vec_capacity l.target;
  fits : length (name_wire l.label-iterator) ≤ 255;
}
