use Rattle.std.proofs.Common.{◌≡◌, ◌+◌, ◌≤◌, ◌++◌, length, take, drop}
use Rattle.name_spec.specs.Names.{name_wire}
use Rattle.svcb_c.proofs.buffers.put_name.Given as goal

abbrev pub invariant-loop-label : goal.invariant-loop-label
invariant-loop-label l = record {
  written : take l.at l.buffer ++ name_wire l.label-iterator ≡ name_wire l.name.labels;
  rest : drop l.at l.buffer ≡ drop l.at l.fn.buffer;
  at_is : l.at + length (name_wire l.label-iterator) ≡ length (name_wire l.name.labels);
  few : length (name_wire l.label-iterator) ≤ 255;
}
