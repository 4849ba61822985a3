-- The text of the data of SVCB and HTTPS records (RFC 9460, section 2.1), printed and scanned.
use Rattle.std.specs.Prelude.{ℕ, ◌^◌, List, ◌∷◌, ◌++◌, length, nat_lt, if◌then◌else◌}
use Rattle.std.specs.Fmt.{decimal}
use Rattle.name_spec.specs.Printed.{printed_name_with_dot}
use Rattle.svcb_spec.specs.Records.{Record, rdata}
use Rattle.text_spec.specs.declared.errors.ScanError.TheVariants.{LongRecord}
use Rattle.text_spec.specs.Scanning.{Scanned, Scanning, scan_then, done, refused}
use Rattle.text_spec.specs.Rows.{number_below, name}
use Rattle.svcb_spec.specs.ParamTexts.{params}
use Rattle.svcb_spec.specs.PrintedParams.{params_printed}

-- the text of data: the priority, the target with its final dot, and the parameters, with a space
-- between two of them
abbrev pub svcb_printed : Record → List ℕ
svcb_printed found =
    decimal found.priority ++ 32 ∷ printed_name_with_dot found.labels
    ++ 32 ∷ params_printed found.pairs

-- a record of at most 65,535 octets; a longer one is refused at the entry's end
abbrev pub within_record_limit : Record → ℕ → Scanned Record
within_record_limit found end =
    if nat_lt 65535 (length (rdata found.priority found.labels found.pairs))
    then refused LongRecord end else done found end

-- the data that the tokens left spell: a priority of 16 bits, a target, and parameters; at most
-- 65,535 octets in all
abbrev pub svcb_data : Scanning Record
svcb_data tokens place =
    scan_then (number_below (2 ^ 16) tokens place) (λ priority target.
    scan_then (name tokens target) (λ labels parameters.
    scan_then (params tokens parameters) (λ pairs end.
    within_record_limit (record { priority = priority; labels = labels; pairs = pairs }) end)))
