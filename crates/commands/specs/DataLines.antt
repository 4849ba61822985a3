-- Record data in hexadecimal, each a message of its own.
use Rattle.std.specs.Prelude.{ℕ, Option, List, length}
use Rattle.std.specs.Result.{result_ok}
use Rattle.svcb_spec.specs.Records.{Record, read}
use Rattle.record_spec.specs.Rows.{Row, Data}
use Rattle.record_spec.specs.Wire.{read_data}
use Rattle.input_lines.specs.Hexadecimal.{hexadecimal_octets}
use Rattle.input_lines.specs.Options.{◌>>=◌}

-- the SVCB data that all octets are
abbrev pub svcb_line : List ℕ → Option Record
svcb_line digits =
    hexadecimal_octets digits >>= λ octets. result_ok (read octets 0 (length octets))

-- the data of numbers and a last field that all octets are
abbrev pub fields_line : Row → List ℕ → Option Data
fields_line row digits =
    hexadecimal_octets digits >>= λ octets. result_ok (read_data row octets)
