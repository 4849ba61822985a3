-- What a report says of a choice.
use Rattle.std.specs.Prelude.{ℕ, ◌+◌, Option, Some, None, List, [], ◌∷◌, ◌++◌, map, codes}
use Rattle.std.specs.List.{flat_map, join_with_byte}
use Rattle.std.specs.Fmt.{decimal}
use Rattle.name_spec.specs.Printed.{printed_octets, printed_name_with_dot}
use Rattle.svcb_spec.specs.ListTexts.{escaped_item}
use Rattle.svcb_choose.specs.declared.choice.Choice.{Choice}
use Rattle.svcb_choose.specs.declared.choice.Choice.TheVariants.{Alias, Unavailable, Endpoints}
use Rattle.svcb_choose.specs.declared.choice.Endpoint.{Endpoint}
use Rattle.input_lines.specs.ExitCodes.{exit_code}
use Rattle.input_lines.specs.Report.{Answer, line}
use Rattle.input_lines.specs.declared.exit_status.ExitStatus.TheVariants as exit

-- a port, or `-` where there is none
abbrev pub port_text : Option ℕ → List ℕ
port_text None = codes "-"
port_text (Some port) = decimal port

-- protocols as the text of a value of `alpn` has them, or `-` where there is none
abbrev pub protocols_text : List (List ℕ) → List ℕ
protocols_text [] = codes "-"
protocols_text (first ∷ others) =
    join_with_byte 44 (map (λ protocol. printed_octets (escaped_item protocol)) (first ∷ others))

-- an endpoint: the place of its record counted from 1, target, port, protocols
abbrev pub endpoint_text : Endpoint → List ℕ
endpoint_text endpoint =
    codes "endpoint " ++ decimal (endpoint.index + 1)
    ++ 32 ∷ printed_name_with_dot endpoint.target
    ++ 32 ∷ port_text endpoint.port
    ++ 32 ∷ protocols_text endpoint.protocols

-- a line for each endpoint
abbrev pub endpoint_lines : List Endpoint → List ℕ
endpoint_lines endpoints = flat_map (λ endpoint. line (endpoint_text endpoint)) endpoints

-- the report of a choice
abbrev pub choice_report : Choice → List ℕ
choice_report (Alias target) = line (codes "alias " ++ printed_name_with_dot target)
choice_report Unavailable = line (codes "unavailable")
choice_report (Endpoints []) = line (codes "none")
choice_report (Endpoints (first ∷ others)) = endpoint_lines (first ∷ others)

-- a choice was made
abbrev pub choice_answer : Choice → Answer
choice_answer chosen =
    record { status = exit_code exit.Done; report = choice_report chosen }
