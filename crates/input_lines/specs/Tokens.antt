-- Lines that are the text of a zone file's entry.
use Rattle.std.specs.Prelude.{ℕ, Option, Some, None, List, [], ◌∷◌, Result, Ok, Err, ◌≡◌}
use Rattle.std.specs.Result.{result_ok}
use Rattle.text_spec.specs.declared.errors.ScanError.{ScanError}
use Rattle.text_spec.specs.declared.errors.ScanError.TheVariants.{NoMemory}
use Rattle.text_spec.specs.declared.lexeme.Symbol.{Symbol}
use Rattle.text_spec.specs.Scanning.{Scanning, any_octets}
use Rattle.text_spec.specs.Tokens.{text_fault, tokens_in}
use Rattle.dns_text.specs.NameInText.{name_in_text}
use Rattle.input_lines.specs.Options.{◌>>=◌}

-- what a text is scanned as: its first lexical fault, and else what its tokens are
abbrev pub entry_scanned : {V : Type 0} → Scanning V → List ℕ → Result V ScanError
entry_scanned scanning text = elim (text_fault text) [
  | Some fault ↦ Err fault
  | None ↦ (scanning (tokens_in text) 0).outcome
]

-- the tokens of a text that is an entry
abbrev pub entry_tokens : List ℕ → Option (List (List Symbol))
entry_tokens text = elim (text_fault text) [ None ↦ Some (tokens_in text) | Some fault ↦ None ]

-- the token, where there is exactly one
abbrev pub only_one : List (List Symbol) → Option (List Symbol)
only_one (token ∷ []) = Some token
only_one _ = None

-- what the token of an entry that has exactly one means
abbrev pub lone : {V : Type 0} → (List Symbol → Result V ScanError) → List ℕ → Option V
lone meaning text = entry_tokens text >>= only_one >>= λ token. result_ok (meaning token)

-- its octets
abbrev pub lone_token : List ℕ → Option (List ℕ)
lone_token = lone any_octets

-- the labels of the name that it spells
abbrev pub lone_name : List ℕ → Option (List (List ℕ))
lone_name text = result_ok (name_in_text text)

-- A call answers, seen by `view`, what a line has, or that it has none. A failed allocation says
-- nothing of the line.
abbrev pub ReadsAs : {X Y : Type 0} → (X → Y) → Result X ScanError → Option Y → Type 0
ReadsAs view (Ok x) given = given ≡ Some (view x)
ReadsAs view (Err NoMemory) given = Unit {0}
ReadsAs view (Err fault) given = given ≡ None
