-- The data of a record, behind which no octets are left.
use Rattle.std.specs.Prelude.{◌≡◌, ℕ, Bool, true, false, Option, Some, None, Result, Ok, Err, IsOk, nat_lt, if◌then◌else◌}
use Rattle.std.specs.Option.{option_map}
use Rattle.name_spec.specs.Octets.{Fault, Short, Form}
use Rattle.wire_base.specs.RecordReading.{DataRead}
use Rattle.wire_base.specs.declared.errors.ParseError.{ParseError}
use Rattle.wire_base.specs.declared.errors.ParseError.TheVariants as errors

-- What a type of data reads of a record whose data goes to an end: nothing where it doesn't take the
-- record's type. Else the data, or its first fault; octets that are left behind it are one.
abbrev pub contents : {Seen : Type 0} → ℕ → Bool → Result (DataRead Seen) Fault
    → Result (Option Seen) Fault
contents end false read = Ok None
contents end true (Ok found) = if nat_lt found.next end then Err Form else Ok (Some found.value)
contents end true (Err fault) = Err fault

-- The answer is that, as `seen` shows data. Memory may be wanting for a copy of what was read, which
-- then has no fault.
abbrev pub GivesContents : {V Seen : Type 0} → (V → Seen) → Result (Option V) ParseError
    → ℕ → Bool → Result (DataRead Seen) Fault → Type 0
GivesContents seen (Ok found) end takes read = contents end takes read ≡ Ok (option_map seen found)
GivesContents seen (Err errors.NoMemory) end takes read = (takes ≡ true) × IsOk read
GivesContents seen (Err errors.ShortInput) end takes read = contents end takes read ≡ Err Short
GivesContents seen (Err errors.Form) end takes read = contents end takes read ≡ Err Form
