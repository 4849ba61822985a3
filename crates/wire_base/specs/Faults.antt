-- What a reader answers, beside what a definition of reading gives.
use Rattle.std.specs.Prelude.{◌≡◌, Result, Ok, Err, IsOk}
use Rattle.name_spec.specs.Octets as spec
use Rattle.wire_base.specs.declared.errors.ParseError.{ParseError}
use Rattle.wire_base.specs.declared.errors.ParseError.TheVariants.{ShortInput, Form, NoMemory}

-- the error is the fault that reading gives; a failed allocation is no fault of the data, and never
-- comes
abbrev pub IsFaultOf : {Y : Type 0} → ParseError → Result Y spec.Fault → Type 0
IsFaultOf ShortInput read = read ≡ Err spec.Short
IsFaultOf Form read = read ≡ Err spec.Form
IsFaultOf NoMemory read = ⊥

-- the error that answers a fault
abbrev pub error_of : spec.Fault → ParseError
error_of spec.Short = ShortInput
error_of spec.Form = Form

-- what was read, as contracts see it, or the error
abbrev pub value_item : {V Seen : Type 0} → (V → Seen) → Result V ParseError
    → Result Seen ParseError
value_item seen (Ok value) = Ok (seen value)
value_item seen (Err error) = Err error

-- the answer, seen by `view`, is what reading gives
abbrev pub Gives : {X Y : Type 0} → (X → Y) → Result X ParseError → Result Y spec.Fault → Type 0
Gives view (Ok x) read = read ≡ Ok (view x)
Gives view (Err error) read = IsFaultOf error read

-- the same of a call that takes memory for what was read, where only that may be wanting
abbrev pub GivesCopy : {X Y : Type 0} → (X → Y) → Result X ParseError → Result Y spec.Fault → Type 0
GivesCopy view (Ok x) read = read ≡ Ok (view x)
GivesCopy view (Err NoMemory) read = IsOk read
GivesCopy view (Err ShortInput) read = read ≡ Err spec.Short
GivesCopy view (Err Form) read = read ≡ Err spec.Form
