-- Laws of how long the texts of SVCB and HTTPS data are, which the functions of `src/text_lengths.rt`
-- state.
use Rattle.std.specs.Prelude.{◌*◌, ◌<◌, ◌≤◌, [], ◌∷◌, ◌++◌, length}
use Rattle.svcb_spec.specs.Params.{Pairs, IsMap, wire}
use Rattle.svcb_spec.specs.Records.{Record, rdata}
use Rattle.svcb_spec.specs.PrintedParams.{params_printed}
use Rattle.svcb_laws.specs.ParamTextLaws.{HaveOctets}
use Rattle.svcb_spec.specs.DataTexts.{svcb_printed}
use Rattle.svcb_laws.specs.DataTextLaws.{IsRecordOfOctets}

-- the text of a map has at most 11 octets for each octet of its parameters
abbrev pub ParamsTextByOctets : Type 0
ParamsTextByOctets = (pairs : Pairs) → IsMap pairs → HaveOctets pairs
    → length (params_printed pairs) ≤ 11 * length (wire pairs)

-- the text of data has at most 11 octets for each octet of the data
abbrev pub DataTextByOctets : Type 0
DataTextByOctets = (found : Record) → IsRecordOfOctets found
    → length (svcb_printed found) ≤ 11 * length (rdata found.priority found.labels found.pairs)

-- so the line of the text, at most 720,886 octets, is shorter than 16,777,216
abbrev pub DataLineFits : Type 0
DataLineFits = (found : Record) → IsRecordOfOctets found
    → length (svcb_printed found ++ 10 ∷ []) < 16777216
