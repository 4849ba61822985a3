-- What answers `scan`.
use Rattle.std.specs.Prelude.{ℕ, Result, Ok, Err, List}
use Rattle.hex.specs.Hex.{encode_lower}
use Rattle.text_spec.specs.declared.errors.ScanError.{ScanError}
use Rattle.text_spec.specs.Faults.{scan_fault_text}
use Rattle.record_spec.specs.RecordData.{RecordData, union_wire}
use Rattle.record_spec.specs.UnionTexts.{union_scan}
use Rattle.input_lines.specs.Report.{Answer, done_answer, not_done}
use Rattle.input_lines.specs.Tokens.{entry_scanned}

-- to a text that is scanned as data: the octets of it
abbrev pub data_scanned : Result RecordData ScanError → Answer
data_scanned (Err fault) = not_done (scan_fault_text fault)
data_scanned (Ok found) = done_answer (encode_lower (union_wire found))

-- the answer of `scan`, for a type number, to an input that isn't too long
abbrev pub due_of_scan : ℕ → List ℕ → Answer
due_of_scan rtype text = data_scanned (entry_scanned (union_scan rtype) text)
