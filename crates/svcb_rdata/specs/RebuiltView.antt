-- The answers of rebuilding.
use Rattle.std.specs.Prelude.{◌≡◌, ℕ, List, length, Result, Ok, Err}
use Rattle.name_spec.specs.Octets.{Short, Form}
use Rattle.svcb_spec.specs.Values.{Value}
use Rattle.svcb_spec.specs.Records.{Record, read, rdata}
use Rattle.svcb_spec.specs.Rebuilding as spec
use Rattle.svcb_spec.specs.Rebuilding.{accept, IsRebuilding}
use Rattle.wire_base.specs.declared.errors.ParseError.{ParseError}
use Rattle.wire_base.specs.declared.errors.ParseError.TheVariants as parse
use Rattle.svcb_rdata.specs.declared.errors.RebuildError.{RebuildError}
use Rattle.svcb_rdata.specs.declared.errors.RebuildError.TheVariants.{Parse, ShortBuf, LongRecordData, NoMemory}
use Rattle.svcb_rdata.specs.declared.rebuild.Rebuilt.{Rebuilt}

-- Memory is taken only where the data was read and its parameters are within the limit.
abbrev pub MayWantMemory : Result spec.Rebuilt spec.Refusal → Type 0
MayWantMemory (Ok done) = Unit {0}
MayWantMemory (Err (spec.Unread fault)) = ⊥
MayWantMemory (Err spec.OverLimit) = ⊥
MayWantMemory (Err spec.TooLong) = Unit {0}

-- the error of reading is the fault of the data, and never a failed allocation
abbrev pub IsUnread : ParseError → Result spec.Rebuilt spec.Refusal → Type 0
IsUnread parse.ShortInput answer = answer ≡ Err (spec.Unread Short)
IsUnread parse.Form answer = answer ≡ Err (spec.Unread Form)
IsUnread parse.NoMemory answer = ⊥

-- the error is the refusal
abbrev pub IsRefusal : RebuildError → Result spec.Rebuilt spec.Refusal → Type 0
IsRefusal (Parse error) answer = IsUnread error answer
IsRefusal ShortBuf answer = answer ≡ Err spec.OverLimit
IsRefusal LongRecordData answer = answer ≡ Err spec.TooLong
IsRefusal NoMemory answer = MayWantMemory answer

-- what was rebuilt, as contracts see it
abbrev pub rebuilt_view : Rebuilt → spec.Rebuilt
rebuilt_view done = record { octets = done.octets; replies = done.replies }

-- the octets and the replies are those of the answer, or the error is its refusal
abbrev pub AnswersRebuild : Result Rebuilt RebuildError → Result spec.Rebuilt spec.Refusal → Type 0
AnswersRebuild (Ok done) answer = answer ≡ Ok (rebuilt_view done)
AnswersRebuild (Err error) answer = IsRefusal error answer

-- how many octets the record data has with the values that are accepted
abbrev pub rebuilt_len : Record → List Value → ℕ → ℕ
rebuilt_len found values limit =
    length (rdata found.priority found.labels (accept found.pairs limit values).pairs)

-- what was rebuilt is a rebuilding of the record that was read: the premise of the laws
abbrev pub IsRebuiltFrom : List ℕ → ℕ → ℕ → List Value → ℕ → Rebuilt → Type 0
IsRebuiltFrom message start len values limit done =
    (found : Record) → read message start len ≡ Ok found
    → IsRebuilding message start len values limit found (rebuilt_view done)
