-- What scanning the text of a value answers.
use Rattle.std.specs.Prelude.{◌≡◌, Bool, true, false, Option, None, Result, Ok, option_map}
use Rattle.text_spec.specs.declared.errors.ScanError.{ScanError}
use Rattle.text_spec.specs.Scanning.{Answers}
use Rattle.svcb_text.specs.Items.{some_value}

-- The answer under a key: nothing exactly where the type does not take the key. Else the value that
-- the text is, as `seen` shows it, or the text's first fault. Only a failed allocation may stand in
-- its place.
abbrev pub AnswersUnder : {V Seen : Type 0} → (V → Seen) → Bool → Result (Option V) ScanError
    → Result Seen ScanError → Type 0
AnswersUnder seen false result read = result ≡ Ok None
AnswersUnder seen true result read = Answers (option_map seen) result (some_value read)
