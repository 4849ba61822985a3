-- The table has each digit's value.
use Rattle.input_lines.proofs.HexadecimalLemmas.{table_value}
use Rattle.input_lines.proofs.hexadecimal.digit_values.Goals as goal

pub returns : goal.returns
returns c = table_value
