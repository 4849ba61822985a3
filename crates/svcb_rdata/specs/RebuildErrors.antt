-- The error of the same name, and what is written of an error.
use Rattle.std.specs.Prelude.{ℕ, List, codes}
use Rattle.wire_base.specs.ErrorTexts.{parse_error_text}
use Rattle.wire_base.specs.declared.errors.ParseError.{ParseError}
use Rattle.wire_base.specs.declared.errors.ParseError.TheVariants as parse
use Rattle.svcb_params.specs.declared.errors.BufError.{BufError}
use Rattle.svcb_params.specs.declared.errors.BufError.TheVariants as buf
use Rattle.svcb_rdata.specs.declared.errors.RebuildError.{RebuildError}
use Rattle.svcb_rdata.specs.declared.errors.RebuildError.TheVariants as rebuild

-- a failed allocation is none of the faults of the data
abbrev pub error_of_parse : ParseError → RebuildError
error_of_parse parse.ShortInput = rebuild.Parse parse.ShortInput
error_of_parse parse.Form = rebuild.Parse parse.Form
error_of_parse parse.NoMemory = rebuild.NoMemory

abbrev pub error_of_buf : BufError → RebuildError
error_of_buf buf.ShortBuf = rebuild.ShortBuf
error_of_buf buf.NoMemory = rebuild.NoMemory

-- what is written of an error
abbrev pub rebuild_error_text : RebuildError → List ℕ
rebuild_error_text (rebuild.Parse error) = parse_error_text error
rebuild_error_text rebuild.ShortBuf = codes "short buffer"
rebuild_error_text rebuild.LongRecordData = codes "long record data"
rebuild_error_text rebuild.NoMemory = parse_error_text parse.NoMemory
