-- The numbers that the calls answer, and their texts.
use Rattle.std.specs.Prelude.{ℕ, ◌+◌, ◌-◌, ◌==◌, nat_lt, if◌then◌else◌, List, [], ◌∷◌, Option, Some, None, Result, Ok, Err, codes}
use Rattle.std.specs.List.{slice_get}
use Rattle.name_spec.specs.Octets.{Fault, Short, Form}
use Rattle.wire_base.specs.declared.errors.ParseError.{ParseError}
use Rattle.wire_base.specs.declared.errors.ParseError.TheVariants as parse
use Rattle.wire_base.specs.ErrorTexts.{parse_error_text}
use Rattle.text_spec.specs.declared.errors.ScanError.{ScanError}
use Rattle.text_spec.specs.declared.errors.ScanError.TheVariants as errors
use Rattle.text_spec.specs.Faults.{scan_fault_text}
use Rattle.svcb_c.specs.declared.status.TheConstants.{HW_OK, HW_E_PLACE, HW_E_SHORT, HW_E_FORM, HW_E_ROOM, HW_E_LIMIT, HW_E_TOO_LONG, HW_E_ARGUMENT, HW_E_MEMORY, HW_END, HW_E_TYPE}

-- ---- the statuses of faults

-- of octets
abbrev pub fault_status : Fault → ℕ
fault_status Short = HW_E_SHORT
fault_status Form = HW_E_FORM

-- of an error of reading
abbrev pub error_status : ParseError → ℕ
error_status parse.ShortInput = HW_E_SHORT
error_status parse.Form = HW_E_FORM
error_status parse.NoMemory = HW_E_MEMORY

-- the place of a fault of a text among all of them
abbrev pub fault_number : ScanError → ℕ
fault_number errors.EndOfEntry = 0
fault_number errors.BadSymbol = 1
fault_number errors.BadEscape = 2
fault_number errors.OpenQuote = 3
fault_number errors.BadBracket = 4
fault_number errors.BadNumber = 5
fault_number errors.BadName = 6
fault_number errors.BadAddress = 7
fault_number errors.BadBase64 = 8
fault_number errors.BadBase16 = 9
fault_number errors.EmptyParam = 10
fault_number errors.BadKeyChar = 11
fault_number errors.UnknownKey = 12
fault_number errors.MissingValue = 13
fault_number errors.UnexpectedValue = 14
fault_number errors.BadListEscape = 15
fault_number errors.EmptyItem = 16
fault_number errors.LongItem = 17
fault_number errors.BadPort = 18
fault_number errors.KeyZeroInMandatory = 19
fault_number errors.DuplicateItem = 20
fault_number errors.DuplicateKey = 21
fault_number errors.MandatoryMissing = 22
fault_number errors.BadUtf8 = 23
fault_number errors.LongValue = 24
fault_number errors.LongRecord = 25
fault_number errors.WrongGateway = 26
fault_number errors.UnknownGateway = 27
fault_number errors.MissingKey = 28
fault_number errors.UnknownType = 29
fault_number errors.TrailingTokens = 30
fault_number errors.NoMemory = 31

-- of a text; no scan's outcome is the last one
abbrev pub scan_fault_status : ScanError → ℕ
scan_fault_status fault = 64 + fault_number fault

-- ---- texts

-- the faults of a text, in the order of their statuses
abbrev pub text_faults : List ScanError
text_faults =
    errors.EndOfEntry ∷ errors.BadSymbol ∷ errors.BadEscape ∷ errors.OpenQuote ∷ errors.BadBracket ∷
    errors.BadNumber ∷ errors.BadName ∷ errors.BadAddress ∷ errors.BadBase64 ∷ errors.BadBase16 ∷
    errors.EmptyParam ∷ errors.BadKeyChar ∷ errors.UnknownKey ∷ errors.MissingValue ∷
    errors.UnexpectedValue ∷ errors.BadListEscape ∷ errors.EmptyItem ∷ errors.LongItem ∷
    errors.BadPort ∷ errors.KeyZeroInMandatory ∷ errors.DuplicateItem ∷ errors.DuplicateKey ∷
    errors.MandatoryMissing ∷ errors.BadUtf8 ∷ errors.LongValue ∷ errors.LongRecord ∷
    errors.WrongGateway ∷ errors.UnknownGateway ∷ errors.MissingKey ∷ errors.UnknownType ∷
    errors.TrailingTokens ∷ []

-- the fault of a text that a status tells
abbrev pub told_fault : ℕ → Option ScanError
told_fault status = if nat_lt status 64 then None else slice_get text_faults (status - 64)

-- its text, where there is a fault
abbrev pub fault_text : Option ScanError → Option (List ℕ)
fault_text (Some fault) = Some (scan_fault_text fault)
fault_text None = None

-- the text of a status, where a call answers it
abbrev pub status_text : ℕ → Option (List ℕ)
status_text status =
    if status == HW_OK then Some (codes "done")
    else if status == HW_E_PLACE then Some (codes "place outside the message")
    else if status == HW_E_SHORT then Some (parse_error_text parse.ShortInput)
    else if status == HW_E_FORM then Some (parse_error_text parse.Form)
    else if status == HW_E_ROOM then Some (codes "short buffer")
    else if status == HW_E_LIMIT then Some (codes "parameters over the limit")
    else if status == HW_E_TOO_LONG then Some (scan_fault_text errors.LongRecord)
    else if status == HW_E_ARGUMENT then Some (codes "bad argument")
    else if status == HW_E_MEMORY then Some (parse_error_text parse.NoMemory)
    else if status == HW_END then Some (codes "end of parameters")
    else if status == HW_E_TYPE then Some (codes "type with names that are not read")
    else fault_text (told_fault status)

-- that text is due, or refused where there is none
abbrev pub text_or_argument : Option (List ℕ) → Result (List ℕ) ℕ
text_or_argument (Some text) = Ok text
text_or_argument None = Err HW_E_ARGUMENT

abbrev pub told_status : ℕ → Result (List ℕ) ℕ
told_status status = text_or_argument (status_text status)
