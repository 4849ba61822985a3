-- What is written of an error.
use Rattle.std.specs.Prelude.{ℕ, List, codes}
use Rattle.wire_base.specs.declared.errors.ParseError.{ParseError}
use Rattle.wire_base.specs.declared.errors.ParseError.TheVariants.{ShortInput, Form, NoMemory}

abbrev pub parse_error_text : ParseError → List ℕ
parse_error_text ShortInput = codes "short input"
parse_error_text Form = codes "form error"
parse_error_text NoMemory = codes "want of memory"
