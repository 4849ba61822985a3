-- Octets that are to be wholly a value.
use Rattle.std.specs.Prelude.{Bool, true, false, Option, None, Some, Result, Ok, Err}
use Rattle.name_spec.specs.Octets.{Fault}
use Rattle.wire_base.specs.Faults.{error_of}
use Rattle.wire_base.specs.declared.errors.ParseError.{ParseError}

-- what the octets under a key wholly are; nothing where the key isn't taken
abbrev pub read_wholly : {Seen : Type 0} → Bool → Result Seen Fault
    → Result (Option Seen) ParseError
read_wholly false read = Ok None
read_wholly true (Ok value) = Ok (Some value)
read_wholly true (Err fault) = Err (error_of fault)

-- an answer of reading them, as contracts see it
abbrev pub seen_answer : {V Seen : Type 0} → (V → Seen) → Result (Option V) ParseError
    → Result (Option Seen) ParseError
seen_answer seen (Ok None) = Ok None
seen_answer seen (Ok (Some value)) = Ok (Some (seen value))
seen_answer seen (Err error) = Err error
