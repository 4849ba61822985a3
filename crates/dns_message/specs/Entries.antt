-- The entries of a message: its questions (RFC 1035, section 4.1.2) and its records (section 4.1.3).
use Rattle.std.specs.Prelude.{ℕ, zero, suc, ◌+◌, List, [], ◌∷◌, Result, Ok, Err, nat_lt, if◌then◌else◌, slice_range}
use Rattle.std.specs.Int.{w32, from_be_bytes}
use Rattle.name_spec.specs.Octets.{Fault, Short, number_at, ◌>>=◌}
use Rattle.name_spec.specs.Names.{NameRead}
use Rattle.wire_base.specs.Faults.{error_of}
use Rattle.wire_base.specs.Input.{Input}
use Rattle.wire_base.specs.NameView.{NameView, next_name, is_next_pointed}
use Rattle.wire_base.specs.RecordReading.{DataRead}
use Rattle.wire_base.specs.declared.errors.ParseError.{ParseError}

-- a question: a name, a type and a class
pub record QuestionView : Type 0 where
  pub qname : NameView
  pub qtype : ℕ
  pub qclass : ℕ

-- a record: its owner, its fixed fields, and its data as what a parser of it reads
pub record MessageRecord : Type 0 where
  pub owner : NameView
  pub rtype : ℕ
  pub class : ℕ
  pub ttl : ℕ
  pub rdata : Input

-- a name that was read at a parser's place
abbrev pub seen_name : Input → NameRead → NameView
seen_name input name =
    record { labels = name.labels; is_compressed = is_next_pointed input }

-- the question whose name was read
abbrev pub question_behind : Input → NameRead → Result (DataRead QuestionView) Fault
question_behind input name =
    if nat_lt input.end (name.next + 4) then Err Short
    else Ok (record {
      value = record {
        qname = seen_name input name;
        qtype = number_at input.message name.next;
        qclass = number_at input.message (name.next + 2);
      };
      next = name.next + 4;
    })

-- the question at a parser's place, or its first fault
abbrev pub next_question : Input → Result (DataRead QuestionView) Fault
next_question input = next_name input >>= question_behind input

-- the record whose owner was read: ten octets of fixed fields, the last two of which count the
-- octets of the data behind them
abbrev pub record_in : Input → NameRead → DataRead MessageRecord
record_in input name =
    let message = input.message in
    let start = name.next + 10 in
    let behind = start + number_at message (name.next + 8) in
    record {
      value = record {
        owner = seen_name input name;
        rtype = number_at message name.next;
        class = number_at message (name.next + 2);
        ttl = from_be_bytes w32 (slice_range message (name.next + 4) (name.next + 8));
        rdata = record { message = message; end = behind; pos = start };
      };
      next = behind;
    }

-- that record, where neither its fixed fields nor its data go past the end
abbrev pub record_behind : Input → NameRead → Result (DataRead MessageRecord) Fault
record_behind input name =
    if nat_lt input.end (name.next + 10) then Err Short
    else if nat_lt input.end (record_in input name).next then Err Short
    else Ok (record_in input name)

-- the record at a parser's place, or its first fault
abbrev pub next_record : Input → Result (DataRead MessageRecord) Fault
next_record input = next_name input >>= record_behind input

-- how one kind of entry is read at a parser's place
abbrev pub ReadsEntry : Type 0 → Type 0
ReadsEntry Seen = Input → Result (DataRead Seen) Fault

-- an entry that was read, in front of those that `others` gives from behind it on; behind a fault
-- there is nothing
abbrev pub with_entry : {Seen : Type 0} → Result (DataRead Seen) Fault
    → (ℕ → List (Result Seen ParseError)) → List (Result Seen ParseError)
with_entry (Ok found) others = Ok found.value ∷ others found.next
with_entry (Err fault) others = Err (error_of fault) ∷ []

-- the entries of a section that are to be read: their count, and where the first stands
pub record Section : Type 0 where
  pub count : ℕ
  pub start : Input

-- so many entries from a parser's place on, in order, up to the first fault
unfoldable pub entries : {Seen : Type 0} → ReadsEntry Seen → ℕ → Input
    → List (Result Seen ParseError)
entries reads zero input = []
entries reads (suc count) input =
    with_entry (reads input) (λ next. entries reads count (record input { pos = next }))

-- where a parser stands behind so many entries, or the first fault among them
unfoldable pub behind_entries : {Seen : Type 0} → ReadsEntry Seen → ℕ → Input
    → Result Input Fault
behind_entries reads zero input = Ok input
behind_entries reads (suc count) input =
    reads input >>= λ found. behind_entries reads count (record input { pos = found.next })

-- the entries of a section, in order
abbrev pub section_entries : {Seen : Type 0} → ReadsEntry Seen → Section
    → List (Result Seen ParseError)
section_entries reads section = entries reads section.count section.start
