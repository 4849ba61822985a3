-- What answers `cds`.
use Rattle.std.specs.Prelude.{ℕ, ◌+◌, Option, Some, None, Result, Ok, Err, List, [], ◌∷◌, ◌++◌, take, drop, slice_get, option_and_then, if◌then◌else◌, codes}
use Rattle.std.specs.Option.{option_map}
use Rattle.std.specs.Fmt.{decimal}
use Rattle.std.specs.Str.{bytes_eq}
use Rattle.record_spec.specs.Rows as rows
use Rattle.record_spec.specs.Rows.{Data}
use Rattle.digest_rdata.specs.FieldsView.{FieldsView}
use Rattle.digest_rdata.specs.declared.cds.CdsFields.{CdsFields}
use Rattle.digest_rdata.specs.declared.cdnskey.CdnskeyFields.{CdnskeyFields}
use Rattle.cds_check.specs.Verdicts.{cds_verdict}
use Rattle.cds_check.specs.declared.verdict.CdsVerdict.{CdsVerdict}
use Rattle.cds_check.specs.declared.verdict.CdsVerdict.TheVariants.{Agree, CdsAlone, CdnskeyAlone}
use Rattle.input_lines.specs.Faults.{due_of_fault}
use Rattle.input_lines.specs.Lines.{lines}
use Rattle.input_lines.specs.Report.{Answer, done_answer}
use Rattle.input_lines.specs.Spelling.{line_or_fault, each_line, ◌>>=◌}
use Rattle.input_lines.specs.Tokens.{lone_name}
use Rattle.input_lines.specs.declared.faults.InputFault.{InputFault}
use Rattle.commands.specs.DataLines.{fields_line}
use Rattle.commands.specs.declared.cds.KeyLine.{KeyLine}
use Rattle.commands.specs.declared.cds.KeyLine.TheVariants.{Cds, Cdnskey}

-- ---- the lines

-- the fields of a CDS (RFC 7344, section 3.1)
abbrev pub cds_of_numbers : List ℕ → List ℕ → Option (FieldsView CdsFields)
cds_of_numbers (tag ∷ algorithm ∷ digest_type ∷ []) digest = Some (record {
  fields = record { key_tag = tag; algorithm = algorithm; digest_type = digest_type };
  last = digest;
})
cds_of_numbers numbers digest = None

-- the fields of a CDNSKEY (RFC 7344, section 3.2)
abbrev pub key_of_numbers : List ℕ → List ℕ → Option (FieldsView CdnskeyFields)
key_of_numbers (flags ∷ protocol ∷ algorithm ∷ []) key = Some (record {
  fields = record { flags = flags; protocol = protocol; algorithm = algorithm };
  last = key;
})
key_of_numbers numbers key = None

-- the CDS that digits give
abbrev pub cds_in : List ℕ → Option (FieldsView CdsFields)
cds_in digits =
    option_and_then (λ (found : Data). cds_of_numbers found.numbers found.last)
    (fields_line rows.cds digits)

-- the CDNSKEY that digits give
abbrev pub key_in : List ℕ → Option (FieldsView CdnskeyFields)
key_in digits =
    option_and_then (λ (found : Data). key_of_numbers found.numbers found.last)
    (fields_line rows.cdnskey digits)

-- `cds HEX` or `cdnskey HEX`
abbrev pub key_line : List ℕ → Option KeyLine
key_line line =
    if bytes_eq (take 4 line) (codes "cds ") then option_map Cds (cds_in (drop 4 line))
    else if bytes_eq (take 8 line) (codes "cdnskey ")
    then option_map Cdnskey (key_in (drop 8 line))
    else None

-- the CDS of lines, in order
abbrev pub cds_among : List KeyLine → List (FieldsView CdsFields)
cds_among [] = []
cds_among (Cds found ∷ more) = found ∷ cds_among more
cds_among (Cdnskey found ∷ more) = cds_among more

-- the CDNSKEY of lines, in order
abbrev pub keys_among : List KeyLine → List (FieldsView CdnskeyFields)
keys_among [] = []
keys_among (Cds found ∷ more) = keys_among more
keys_among (Cdnskey found ∷ more) = found ∷ keys_among more

-- ---- the answer

-- the verdict that an input asks for, or its first fault: line 1 is the owner, each other line a
-- CDS or a CDNSKEY
abbrev pub asked_verdict : List (List ℕ) → Result CdsVerdict InputFault
asked_verdict all = do
  owner ← line_or_fault 1 (option_and_then lone_name (slice_get all 0))
  found ← each_line key_line 2 (drop 1 all)
  Ok (cds_verdict owner (cds_among found) (keys_among found))

-- what a report says of a verdict, with places counted from 1
abbrev pub verdict_text : CdsVerdict → List ℕ
verdict_text Agree = codes "agree"
verdict_text (CdsAlone i) = codes "cds " ++ decimal (i + 1) ++ codes " without cdnskey"
verdict_text (CdnskeyAlone j) = codes "cdnskey " ++ decimal (j + 1) ++ codes " without cds"

-- to the verdict that an input asks for
abbrev pub due_of_verdict : Result CdsVerdict InputFault → Answer
due_of_verdict (Err fault) = due_of_fault fault
due_of_verdict (Ok verdict) = done_answer (verdict_text verdict)

-- the answer of `cds` to an input that isn't too long
abbrev pub due_of_cds : List ℕ → Answer
due_of_cds input = due_of_verdict (asked_verdict (lines input))
