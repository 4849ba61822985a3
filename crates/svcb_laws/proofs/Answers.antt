-- What an answer tells of the steps before it.
use Rattle.std.proofs.Common.{◌≡◌, Result, Ok, Err, refl}
use Rattle.text_spec.specs.declared.errors.ScanError.{ScanError}
use Rattle.svcb_spec.specs.ListTexts.{◌>>=◌}

-- the step before an Ok is one
pub before_ok : {A B : Type 0} (first : Result A ScanError) (next : A → Result B ScanError) (y : B)
    → (first >>= next) ≡ Ok y
    → (x : A) × (first ≡ Ok x) × (next x ≡ Ok y)
before_ok (Ok x) next y is = (x, refl, is)
before_ok (Err fault) next y is = absurd cc
