-- What a call answers that reads in steps.
use Rattle.std.proofs.Common.{◌≡◌, Result, Ok, Err, ap}
use Rattle.text_spec.specs.declared.errors.ScanError.{ScanError}
use Rattle.text_spec.specs.declared.errors.ScanError.TheVariants.{NoMemory}
use Rattle.text_spec.specs.Scanning.{Answers}
use Rattle.svcb_spec.specs.ListTexts.{◌>>=◌}

-- a refusal
abbrev refusal : (W : Type 0) → ScanError → Result W ScanError
refusal W fault = Err fault

-- a fault of a reading is answered
pub refused_as : {U W : Type 0} (seen : U → W) (fault : ScanError) (read : Result W ScanError)
    → read ≡ Err fault → Answers seen (Err fault) read
refused_as seen NoMemory read is = tt
refused_as seen fault read is = is

module _ {T U V W : Type 0} (view : T → V) (seen : U → W) where
  -- a first step that is refused refuses all
  pub refused_then : (fault : ScanError) (read : Result V ScanError)
      (next : V → Result W ScanError) → Answers view (Err fault) read
      → Answers seen (Err fault) (read >>= next)
  refused_then NoMemory read next answer = tt
  refused_then fault (Ok x) next answer = absurd cc
  refused_then fault (Err e) next answer = let same : e ≡ fault = cc in ap (refusal W) same

-- what is read in steps is refused where its first step is
pub refused_first : {U V W : Type 0} (seen : U → W) (fault : ScanError)
    (whole : Result W ScanError) (read : Result V ScanError) (next : V → Result W ScanError)
    → whole ≡ (read >>= next) → Answers {T = V} (λ x. x) (Err fault) read
    → Answers seen (Err fault) whole
refused_first {V = V} seen fault whole read next is refused =
    rw is (refused_then {T = V} (λ x. x) seen fault read next refused)

-- and the first step is refused where all is that follows it without a fault
pub refused_before : {V W : Type 0} (fault : ScanError) (read : Result V ScanError) (next : V → W)
    → Answers {T = W} (λ x. x) (Err fault) (read >>= λ x. Ok (next x))
    → Answers {T = V} (λ x. x) (Err fault) read
refused_before NoMemory read next refused = tt
refused_before fault (Ok x) next refused = absurd cc
refused_before {V = V} fault (Err e) next refused = let same : e ≡ fault = cc in ap (refusal V) same
