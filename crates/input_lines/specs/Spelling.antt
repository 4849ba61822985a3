-- What an input spells, or its first fault.
use Rattle.std.specs.Prelude.{ℕ, ◌≡◌, ◌+◌, Option, Some, None, Result, Ok, Err, List, [], ◌∷◌}
use Rattle.input_lines.specs.declared.faults.InputFault.{InputFault}
use Rattle.input_lines.specs.declared.faults.InputFault.TheVariants.{BadLine}
use Rattle.input_lines.specs.declared.faults.SpellError.{SpellError}
use Rattle.input_lines.specs.declared.faults.SpellError.TheVariants.{Fault, NoMemory}

-- the next step, unless there is a fault
infixl 10 ◌>>=◌
abbrev pub ◌>>=◌ : {A B : Type 0} → Result A InputFault → (A → Result B InputFault)
    → Result B InputFault
Ok x >>= f = f x
Err fault >>= f = Err fault

-- what the line of a number says; one that is missing or bad is a fault
abbrev pub line_or_fault : {A : Type 0} → ℕ → Option A → Result A InputFault
line_or_fault number (Some x) = Ok x
line_or_fault number None = Err (BadLine number)

-- what each of the lines says, whose numbers begin with this one
abbrev pub each_line : {A : Type 0} → (List ℕ → Option A) → ℕ → List (List ℕ)
    → Result (List A) InputFault
each_line reading number [] = Ok []
each_line reading number (line ∷ more) = do
  found ← line_or_fault number (reading line)
  others ← each_line reading (number + 1) more
  Ok (found ∷ others)

-- no more steps where there is a fault
abbrev pub first_fault_or : {A : Type 0} → Option InputFault → Result A InputFault
    → Result A InputFault
first_fault_or (Some fault) next = Err fault
first_fault_or None next = next

-- A reader of the code answers, seen by `view`, what a definition gives. A failed
-- allocation says nothing of the input.
abbrev pub IsFault : {Y : Type 0} → SpellError → Result Y InputFault → Type 0
IsFault (Fault fault) given = given ≡ Err fault
IsFault NoMemory given = Unit {0}

abbrev pub SpellsAs : {X Y : Type 0} → (X → Y) → Result X SpellError → Result Y InputFault → Type 0
SpellsAs view (Ok x) given = given ≡ Ok (view x)
SpellsAs view (Err error) given = IsFault error given
