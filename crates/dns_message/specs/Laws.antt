-- Laws of messages.
use Rattle.std.specs.Prelude.{◌≡◌, ℕ, ◌<◌, ◌≤◌, List, [], ◌∷◌, Result, Ok, Err}
use Rattle.wire_base.specs.Input.{Input}
use Rattle.wire_base.specs.declared.errors.ParseError.{ParseError}
use Rattle.dns_message.specs.Entries.{MessageRecord, entries, next_record}

-- the data of a record stands in a message, behind a place and before an end
pub record StandsIn (input : Input) (found : MessageRecord) : Type 0 where
  pub message : found.rdata.message ≡ input.message
  pub behind : input.pos < found.rdata.pos
  pub ascends : found.rdata.pos ≤ found.rdata.end
  pub within : found.rdata.end ≤ input.end

-- the data of each record stands behind that of the one before it
abbrev pub StandInOrder : Input → List (Result MessageRecord ParseError) → Type 0
StandInOrder input [] = Unit {0}
StandInOrder input (Ok found ∷ others) =
    StandsIn input found × StandInOrder (record input { pos = found.rdata.end }) others
StandInOrder input (Err error ∷ others) = StandInOrder input others

-- so the data of records doesn't overlap
abbrev pub RecordsInOrder : Type 0
RecordsInOrder = (count : ℕ) (input : Input)
    → StandInOrder input (entries next_record count input)
