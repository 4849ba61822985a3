-- The name that the whole text of an entry spells.
use Rattle.std.specs.Prelude.{ℕ, nat_lt, if◌then◌else◌, Some, None, List, length, Result, Err}
use Rattle.text_spec.specs.declared.errors.ScanError.{ScanError}
use Rattle.text_spec.specs.declared.errors.ScanError.TheVariants.{TrailingTokens}
use Rattle.text_spec.specs.Rows.{name}
use Rattle.text_spec.specs.Scanning.{Scanning, scan_then, done, refused}
use Rattle.text_spec.specs.Tokens.{text_fault, tokens_in}

-- a name, and then no token
abbrev pub last_name : Scanning (List (List ℕ))
last_name tokens place =
    scan_then (name tokens place) (λ labels end.
    if nat_lt end (length tokens) then refused TrailingTokens end else done labels end)

-- a text's first lexical fault, and else the labels of the name that its only token is
abbrev pub name_in_text : List ℕ → Result (List (List ℕ)) ScanError
name_in_text text = elim (text_fault text) [
  | Some fault ↦ Err fault
  | None ↦ (last_name (tokens_in text) 0).outcome
]
