-- Data that octets wholly are.
use Rattle.std.specs.Prelude.{◌≡◌, ℕ, ◌+◌, List, Result, Ok, Err, nat_lt, if◌then◌else◌}
use Rattle.name_spec.specs.Octets.{Fault, Short, Form}
use Rattle.wire_base.specs.Input.{Input}
use Rattle.wire_base.specs.RecordReading.{DataRead}
use Rattle.wire_base.specs.declared.errors.ParseError.{ParseError}
use Rattle.wire_base.specs.declared.errors.ParseError.TheVariants as parse
use Rattle.record_spec.specs.RecordData.{RecordData}
use Rattle.record_spec.specs.UnionReading.{union_read}

-- the `len` octets from `start` on in a message
abbrev pub part_of : List ℕ → ℕ → ℕ → Input
part_of message start len = record { message = message; end = start + len; pos = start }

-- data that reaches to an end; octets that are left behind it are a fault
abbrev pub whole_data : {V : Type 0} → ℕ → Result (DataRead V) Fault → Result V Fault
whole_data end (Ok found) = if nat_lt found.next end then Err Form else Ok found.value
whole_data end (Err fault) = Err fault

-- the data that all octets left are under a type number, or their first fault
abbrev pub data_left : ℕ → Input → Result RecordData Fault
data_left rtype input = whole_data input.end (union_read rtype input)

-- the data that the `len` octets from `start` on in a message are
abbrev pub data_in : ℕ → List ℕ → ℕ → ℕ → Result RecordData Fault
data_in rtype message start len = data_left rtype (part_of message start len)

-- that data was read
abbrev pub IsRead : {V : Type 0} → Result V Fault → Type 0
IsRead (Ok found) = Unit {0}
IsRead (Err fault) = ⊥

-- what is answered, as `view` sees it, of data that is to reach to an end; memory is taken only
-- where data was read
abbrev pub GivesWhole : {X V : Type 0} → (X → V) → Result X ParseError → ℕ
    → Result (DataRead V) Fault → Type 0
GivesWhole view (Ok x) end read = whole_data end read ≡ Ok (view x)
GivesWhole view (Err parse.NoMemory) end read = IsRead read
GivesWhole view (Err parse.ShortInput) end read = whole_data end read ≡ Err Short
GivesWhole view (Err parse.Form) end read = whole_data end read ≡ Err Form
