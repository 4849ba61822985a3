-- The lines of an input of `edit` that push what the text of a parameter spells (RFC 9460, section
-- 2.1).
use Rattle.std.specs.Prelude.{ℕ, Option, List}
use Rattle.std.specs.Result.{result_ok}
use Rattle.svcb_spec.specs.Values.{Value}
use Rattle.svcb_spec.specs.ParamTexts.{spells}
use Rattle.input_lines.specs.Options.{◌>>=◌}
use Rattle.input_lines.specs.Tokens.{lone_token}

-- the value that the token of a line spells
abbrev pub token_push : List ℕ → Option Value
token_push line = lone_token line >>= λ octets. result_ok (spells octets)
