-- What reading record data answers.
use Rattle.std.specs.Prelude.{◌≡◌, ℕ, Bool, true, false, Option, Some, None, Result, Ok, Err}
use Rattle.name_spec.specs.Octets.{Fault}
use Rattle.wire_base.specs.Faults.{IsFaultOf}
use Rattle.wire_base.specs.declared.errors.ParseError.{ParseError}
use Rattle.wire_base.specs.declared.errors.ParseError.TheVariants.{ShortInput, Form, NoMemory}

-- data that was read, and the place behind it
pub record DataRead (Seen : Type 0) : Type 0 where
  pub value : Seen
  pub next : ℕ

-- data that reaches up to a place
abbrev pub read_up_to : {V : Type 0} → ℕ → Result V Fault → Result (DataRead V) Fault
read_up_to end (Ok found) = Ok (record { value = found; next = end })
read_up_to end (Err fault) = Err fault

-- The answer under a type number: nothing exactly where the type is another. Else the data that
-- reading gives, as `seen` shows it, or the fault. Memory for what was read may be wanting.
abbrev pub DataAnswers : {V Seen : Type 0}
    → (V → Seen) → Result (Option V) ParseError → Bool → Result (DataRead Seen) Fault → Type 0
DataAnswers seen result false read = result ≡ Ok None
DataAnswers seen (Ok None) true read = ⊥
DataAnswers seen (Ok (Some found)) true (Ok data_read) = data_read.value ≡ seen found
DataAnswers seen (Ok (Some found)) true (Err fault) = ⊥
DataAnswers seen (Err NoMemory) true (Ok data_read) = Unit {0}
DataAnswers seen (Err NoMemory) true (Err fault) = ⊥
DataAnswers seen (Err ShortInput) true read = IsFaultOf ShortInput read
DataAnswers seen (Err Form) true read = IsFaultOf Form read

-- the place behind the data, or the place as it was where nothing is read
abbrev pub place_behind : {Seen : Type 0} → ℕ → Bool → Result (DataRead Seen) Fault → ℕ
place_behind pos false read = pos
place_behind pos true (Ok data_read) = data_read.next
place_behind pos true (Err fault) = pos
