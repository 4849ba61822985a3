-- What answers `zonemd`.
use Rattle.std.specs.Prelude.{ℕ, Option, Some, None, Result, Ok, Err, List, [], ◌∷◌, drop, slice_get, option_and_then, if◌then◌else◌, codes}
use Rattle.std.specs.Result.{result_ok}
use Rattle.record_spec.specs.Rows as rows
use Rattle.record_spec.specs.Rows.{Data}
use Rattle.record_spec.specs.Wire.{read_data}
use Rattle.digest_rdata.specs.FieldsView.{FieldsView}
use Rattle.digest_rdata.specs.declared.zonemd.ZonemdFields.{ZonemdFields}
use Rattle.zonemd_check.specs.ZoneRecordView.{ZoneRecordView}
use Rattle.zonemd_check.specs.Ordering.{records_ascend}
use Rattle.zonemd_check.specs.Verdicts.{zonemd_verdict}
use Rattle.zonemd_check.specs.declared.verdict.ZonemdVerdict.{ZonemdVerdict}
use Rattle.zonemd_check.specs.declared.verdict.ZonemdVerdict.TheVariants.{Match, Mismatch, Unsupported}
use Rattle.input_lines.specs.Faults.{due_of_fault}
use Rattle.input_lines.specs.Hexadecimal.{hexadecimal_octets}
use Rattle.input_lines.specs.Lines.{lines}
use Rattle.input_lines.specs.Report.{Answer, done_answer}
use Rattle.input_lines.specs.Spelling.{line_or_fault, each_line, first_fault_or, ◌>>=◌}
use Rattle.input_lines.specs.Tokens.{lone_name}
use Rattle.input_lines.specs.declared.faults.InputFault.{InputFault}
use Rattle.input_lines.specs.declared.faults.InputFault.TheVariants.{RecordsNotAscending}
use Rattle.commands.specs.ZoneLines.{record_line}

-- the fields of ZONEMD data (RFC 8976, section 2.2)
abbrev pub zonemd_of_numbers : List ℕ → List ℕ → Option (FieldsView ZonemdFields)
zonemd_of_numbers (serial ∷ scheme ∷ algorithm ∷ []) digest = Some (record {
  fields = record { serial = serial; scheme = scheme; algorithm = algorithm };
  last = digest;
})
zonemd_of_numbers numbers digest = None

-- the ZONEMD data that all octets are
abbrev pub zonemd_read : List ℕ → Option (FieldsView ZonemdFields)
zonemd_read octets =
    option_and_then (λ (found : Data). zonemd_of_numbers found.numbers found.last)
    (result_ok (read_data rows.zonemd octets))

-- the ZONEMD data that digits give
abbrev pub zonemd_in : List ℕ → Option (FieldsView ZonemdFields)
zonemd_in digits = option_and_then zonemd_read (hexadecimal_octets digits)

-- a zone: its apex, the data of its ZONEMD record, and its records
pub record Zone : Type 0 where
  pub apex : List (List ℕ)
  pub zonemd : FieldsView ZonemdFields
  pub records : List ZoneRecordView

-- a record that belongs before the one before it is a fault
abbrev pub order_fault : List ZoneRecordView → Option InputFault
order_fault records = if records_ascend records then None else Some RecordsNotAscending

-- The zone of an input, or its first fault: line 1 is the apex, line 2 the data of the ZONEMD
-- record, and each other line a record.
abbrev pub zone_of : List (List ℕ) → Result Zone InputFault
zone_of all = do
  apex ← line_or_fault 1 (option_and_then lone_name (slice_get all 0))
  zonemd ← line_or_fault 2 (option_and_then zonemd_in (slice_get all 1))
  records ← each_line record_line 3 (drop 2 all)
  first_fault_or (order_fault records) (Ok (record {
    apex = apex;
    zonemd = zonemd;
    records = records;
  }))

-- what a report says of a verdict
abbrev pub zone_text : ZonemdVerdict → List ℕ
zone_text Match = codes "match"
zone_text Mismatch = codes "mismatch"
zone_text Unsupported = codes "unsupported"

-- to the zone of an input
abbrev pub due_of_zone : Result Zone InputFault → Answer
due_of_zone (Err fault) = due_of_fault fault
due_of_zone (Ok z) = done_answer (zone_text (zonemd_verdict z.apex z.records z.zonemd))

-- the answer of `zonemd` to an input that isn't too long
abbrev pub due_of_zonemd : List ℕ → Answer
due_of_zonemd input = due_of_zone (zone_of (lines input))
