-- Record data as its readers see it.
use Rattle.std.specs.Prelude.{ℕ, ◌+◌, ◌-◌, Bool, Result, Ok, Err}
use Rattle.name_spec.specs.Octets.{Fault}
use Rattle.name_spec.specs.Names.{is_pointed}
use Rattle.svcb_spec.specs.Params.{Pairs}
use Rattle.svcb_spec.specs.Records.{Record, read}
use Rattle.wire_base.specs.Input.{Input}
use Rattle.wire_base.specs.NameView.{NameView}
use Rattle.wire_base.specs.RecordReading.{DataRead, read_up_to}

-- record data in a message, whose target may be compressed
pub record SvcbView : Type 0 where
  pub priority : ℕ
  pub target : NameView
  pub pairs : Pairs

-- the record data that is seen
abbrev pub record_of : SvcbView → Record
record_of view =
    record { priority = view.priority; labels = view.target.labels; pairs = view.pairs }

-- the record data in all octets before the end of the data
abbrev pub next_record : Input → Result Record Fault
next_record input = read input.message input.pos (input.end - input.pos)

-- whether a pointer is followed to read its target, which stands behind the priority
abbrev pub is_target_pointed : Input → Bool
is_target_pointed input = is_pointed input.message input.end (input.pos + 2)

-- that record data, and the place behind it
abbrev pub svcb_data_read : Input → Result (DataRead Record) Fault
svcb_data_read input = read_up_to input.end (next_record input)

-- the parameters of a record that was read
abbrev pub record_pairs : Result Record Fault → Result Pairs Fault
record_pairs (Ok found) = Ok found.pairs
record_pairs (Err fault) = Err fault
