-- The sink has got the octets before the place, and has not failed.
use Rattle.std.proofs.Common.{◌≡◌, ◌-◌, ◌≤◌, length, take, is_some}
use Rattle.std.specs.Io.KnownBytes.{Appends}
use Rattle.devices.proofs.transfer.write_all.Given as goal

abbrev pub invariant-loop-written : goal.invariant-loop-written
invariant-loop-written g l = record {
  within : l.written ≤ length l.bytes;
  part : Appends (g.K.Sink.held l.initial.sink) (g.K.Sink.held l.sink) (take l.written l.bytes);
  empty : g.K.Sink.empty_writes l.sink ≡ g.K.Sink.empty_writes l.initial.sink;
  keeps_telling : is_some (g.K.Sink.held l.sink) ≡ is_some (g.K.Sink.held l.initial.sink);
  count : g.K.Sink.faults l.sink ≡ g.K.Sink.faults l.initial.sink;
}

abbrev pub decreases-loop-written : goal.decreases-loop-written
decreases-loop-written g l = length l.bytes - l.written
