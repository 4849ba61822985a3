-- The sections of a message (RFC 1035, section 4.1): behind the header the questions, then the
-- answer, the authority and the additional records, each as many as the header counts.
use Rattle.std.specs.Prelude.{ℕ, List, length, Result, Ok, Err}
use Rattle.name_spec.specs.Octets.{Fault, ◌>>=◌}
use Rattle.wire_base.specs.Input.{Input, octets_left}
use Rattle.dns_message.specs.Entries.{Section, next_question, next_record, behind_entries}
use Rattle.dns_message.specs.Headers.{header_of}

-- where the questions begin, in a parser of the whole message
abbrev pub questions_start : List ℕ → Input
questions_start message = record { message = message; end = length message; pos = 12 }

-- where the answers begin, or the first fault before them
abbrev pub answers_start : List ℕ → Result Input Fault
answers_start message =
    behind_entries next_question (header_of message).qdcount (questions_start message)

-- where the authority records begin
abbrev pub authorities_start : List ℕ → Result Input Fault
authorities_start message =
    answers_start message >>= behind_entries next_record (header_of message).ancount

-- where the additional records begin
abbrev pub additionals_start : List ℕ → Result Input Fault
additionals_start message =
    authorities_start message >>= behind_entries next_record (header_of message).nscount

-- what stands behind the last record
abbrev pub trailing_start : List ℕ → Result Input Fault
trailing_start message =
    additionals_start message >>= behind_entries next_record (header_of message).arcount

-- a section of so many records, where its place was reached
abbrev pub section_behind : Result Input Fault → ℕ → Result Section Fault
section_behind (Ok input) count = Ok (record { count = count; start = input })
section_behind (Err fault) count = Err fault

-- the octets behind the last record
abbrev pub trailing_octets : List ℕ → Result (List ℕ) Fault
trailing_octets message = trailing_start message >>= λ input. Ok (octets_left input)
