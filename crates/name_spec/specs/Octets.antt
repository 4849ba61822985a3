-- Octets of a message, the numbers in them, and the faults of reading them.
use Rattle.std.specs.Prelude.{ℕ, ◌+◌, ◌*◌, ◌/◌, ◌%◌, List, [], ◌∷◌, Result, Ok, Err, slice_index}

-- Short: octets are missing. Form: an octet, a length, a pointer or two keys are not allowed, or
-- octets are left over.
pub data Fault : Type 0 where
  Short : Fault
  Form : Fault

-- a number up to 65,535 as two octets, the high one first
abbrev pub be2 : ℕ → List ℕ
be2 n = n / 256 ∷ n % 256 ∷ []

-- the number in the two octets from a place on
abbrev pub number_at : List ℕ → ℕ → ℕ
number_at message pos = slice_index message pos * 256 + slice_index message (pos + 1)

-- the next step of a reading, unless there is a fault
infixl 10 ◌>>=◌
abbrev pub ◌>>=◌ : {A B : Type 0} → Result A Fault → (A → Result B Fault) → Result B Fault
(Ok x) >>= f = f x
(Err fault) >>= f = Err fault
