-- Where the scanner stands behind a part of a scan.
use Rattle.std.specs.Prelude.{ℕ, Result, Err}
use Rattle.text_spec.specs.declared.errors.ScanError.{ScanError}
use Rattle.text_spec.specs.declared.errors.ScanError.TheVariants as errors

-- Where an allocation failed, it goes back to where it began, and stays otherwise.
abbrev pub place_after : {T : Type 0} → Result T ScanError → ℕ → ℕ → ℕ
place_after (Err errors.NoMemory) began place = began
place_after outcome began place = place
