-- What reading the value of a service parameter answers.
use Rattle.std.specs.Prelude.{◌≡◌, ℕ, ◌+◌, Bool, true, false, Option, Some, None, Result, Ok, Err}
use Rattle.name_spec.specs.Octets.{Fault}
use Rattle.name_spec.specs.Taking.{Taken}
use Rattle.wire_base.specs.Input.{Input}
use Rattle.wire_base.specs.Faults.{IsFaultOf}
use Rattle.wire_base.specs.declared.errors.ParseError.{ParseError}

-- The answer under a key: nothing exactly where the type does not take the key. Else the value that
-- reading gives, as `seen` shows it, or the fault. Want of memory never comes.
abbrev pub ValueAnswers : {V Seen : Type 0} → (V → Seen) → Result (Option V) ParseError → Bool
    → Result (Taken Seen) Fault → Type 0
ValueAnswers seen result false read = result ≡ Ok None
ValueAnswers seen (Ok None) true read = ⊥
ValueAnswers seen (Ok (Some value)) true (Ok taken) = taken.value ≡ seen value
ValueAnswers seen (Ok (Some value)) true (Err fault) = ⊥
ValueAnswers seen (Err error) true read = IsFaultOf error read

-- how many octets are taken: none, where the key isn't or there is a fault
abbrev pub octets_taken : {Seen : Type 0} → Bool → Result (Taken Seen) Fault → ℕ
octets_taken false read = 0
octets_taken true (Ok taken) = taken.len
octets_taken true (Err fault) = 0

-- the input behind octets that are taken
abbrev pub input_behind : Input → ℕ → Input
input_behind input len = record input { pos = input.pos + len }
