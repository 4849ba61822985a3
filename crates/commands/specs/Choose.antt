-- What answers `choose`.
use Rattle.std.specs.Prelude.{ℕ, Option, Some, None, Result, Ok, Err, List, [], ◌∷◌, drop, slice_get, option_and_then, if◌then◌else◌, codes}
use Rattle.std.specs.Option.{option_map}
use Rattle.std.specs.Result.{result_ok}
use Rattle.std.specs.Str.{bytes_eq}
use Rattle.registry.specs.Keys.{parameter_keys}
use Rattle.registry.specs.Texts.{spelled_key}
use Rattle.svcb_spec.specs.Records.{Record}
use Rattle.svcb_spec.specs.Values.{Value}
use Rattle.svcb_spec.specs.ValueTexts.{alpn_value}
use Rattle.svcb_choose.specs.Choosing.{choice, priorities_ascend}
use Rattle.svcb_choose.specs.Usability.{alpn_protocols}
use Rattle.input_lines.specs.Faults.{due_of_fault}
use Rattle.input_lines.specs.Lines.{lines, pieces}
use Rattle.input_lines.specs.Report.{Answer}
use Rattle.input_lines.specs.Spelling.{line_or_fault, each_line, first_fault_or, ◌>>=◌}
use Rattle.input_lines.specs.Tokens.{lone_name, lone_token}
use Rattle.input_lines.specs.declared.faults.InputFault.{InputFault}
use Rattle.input_lines.specs.declared.faults.InputFault.TheVariants.{PrioritiesNotAscending}
use Rattle.commands.specs.ChooseReport.{choice_answer}
use Rattle.commands.specs.DataLines.{svcb_line}

-- what a client asks: the owner, the keys that it understands, the protocols that the scheme has by
-- itself, and the records
pub record Question : Type 0 where
  pub owner : List (List ℕ)
  pub understood : List ℕ
  pub defaults : List (List ℕ)
  pub records : List Record

-- exactly `-`, which stands for none
abbrev pub none_or : {A : Type 0} → (List ℕ → Option (List A)) → List ℕ → Option (List A)
none_or reading line = if bytes_eq line (codes "-") then Some [] else reading line

-- the keys that texts spell, where each spells one
abbrev pub keys_of : List (List ℕ) → Option (List ℕ)
keys_of [] = Some []
keys_of (text ∷ more) =
    option_and_then (λ (key : ℕ). option_map (λ keys. key ∷ keys) (keys_of more))
    (spelled_key parameter_keys text)

-- the keys of a token, with commas between them
abbrev pub key_list : List ℕ → Option (List ℕ)
key_list line = option_and_then (λ (token : List ℕ). keys_of (pieces 44 token)) (lone_token line)

-- the value of a token that is the text of a value of `alpn`
abbrev pub alpn_line : List ℕ → Option Value
alpn_line line =
    option_and_then (λ (token : List ℕ). result_ok (alpn_value token)) (lone_token line)

-- the protocols of that value
abbrev pub protocol_list : List ℕ → Option (List (List ℕ))
protocol_list line = option_map alpn_protocols (alpn_line line)

-- a record with a lower priority than the one before it is a fault
abbrev pub order_fault : List Record → Option InputFault
order_fault records = if priorities_ascend records then None else Some PrioritiesNotAscending

-- The question of an input, or its first fault: line 1 is the owner, line 2 the keys, line 3 the
-- defaults, and each other line a record.
abbrev pub asked : List (List ℕ) → Result Question InputFault
asked all = do
  owner ← line_or_fault 1 (option_and_then lone_name (slice_get all 0))
  understood ← line_or_fault 2 (option_and_then (none_or key_list) (slice_get all 1))
  defaults ← line_or_fault 3 (option_and_then (none_or protocol_list) (slice_get all 2))
  records ← each_line svcb_line 4 (drop 3 all)
  first_fault_or (order_fault records) (Ok (record {
    owner = owner;
    understood = understood;
    defaults = defaults;
    records = records;
  }))

-- to the question of an input
abbrev pub due_of_question : Result Question InputFault → Answer
due_of_question (Err fault) = due_of_fault fault
due_of_question (Ok q) = choice_answer (choice q.owner q.records q.understood q.defaults)

-- the answer of `choose` to an input that isn't too long
abbrev pub due_of_choose : List ℕ → Answer
due_of_choose input = due_of_question (asked (lines input))
