-- What a scan answers where the tokens left are those of a printed text.
use Rattle.std.specs.Prelude.{ℕ, List, drop, Result, Ok}
use Rattle.text_spec.specs.declared.errors.ScanError.{ScanError}
use Rattle.text_spec.specs.Pieces.{HasTokens}
use Rattle.text_spec.specs.Scanning.{Scan, Answers}

-- Where the tokens left are those of the text of what may be held, the answer is that, seen by
-- `view`. Only a failed allocation may stand in its place.
abbrev pub ReadsBack : {T V : Type 0} → (T → V) → (V → Type 0) → (V → List ℕ) → Scan
    → Result T ScanError → Type 0
ReadsBack {T} {V} view IsHeld text old result = (found : V) → IsHeld found
    → HasTokens (text found) (drop old.taken old.tokens) → Answers view result (Ok found)
