-- What may not be there.
use Rattle.std.specs.Prelude.{Option, Some, None}

-- the next step, where the step before it gave a value
infixl 10 ◌>>=◌
abbrev pub ◌>>=◌ : {A B : Type 0} → Option A → (A → Option B) → Option B
Some x >>= f = f x
None >>= f = None
