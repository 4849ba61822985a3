-- The octets that were taken are the vector's, each read gave one, and the source has not
-- failed.
use Rattle.std.proofs.Common.{◌≡◌, ◌+◌, ◌-◌, ◌≤◌, is_some, vec_len}
use Rattle.std.specs.Io.KnownBytes.{Consumes}
use Rattle.devices.specs.declared.transfer.TheConstants.{MAX_INPUT}
use Rattle.devices.proofs.transfer.read_input.Given as goal

abbrev pub invariant-loop-piece : goal.invariant-loop-piece
invariant-loop-piece g l = record {
  taken : Consumes (g.S.Source.left l.initial.source) (g.S.Source.left l.source) l.input.items;
  bound : vec_len l.input ≤ MAX_INPUT + 1;
  calls : g.S.Source.calls l.source ≤ g.S.Source.calls l.initial.source + vec_len l.input;
  empty : g.S.Source.empty_reads l.source ≡ g.S.Source.empty_reads l.initial.source;
  keeps_telling : is_some (g.S.Source.left l.source) ≡ is_some (g.S.Source.left l.initial.source);
  count : g.S.Source.faults l.source ≡ g.S.Source.faults l.initial.source;
}

-- how many octets are missing until there are too many
abbrev pub decreases-loop-piece : goal.decreases-loop-piece
decreases-loop-piece g l = MAX_INPUT + 1 - vec_len l.input
