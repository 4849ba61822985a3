-- What is written of a fault of scanning.
use Rattle.std.specs.Prelude.{ℕ, List, codes}
use Rattle.text_spec.specs.declared.errors.ScanError.{ScanError}
use Rattle.text_spec.specs.declared.errors.ScanError.TheVariants as errors

-- the text of a fault
abbrev pub scan_fault_text : ScanError → List ℕ
scan_fault_text errors.EndOfEntry = codes "end of entry"
scan_fault_text errors.BadSymbol = codes "bad symbol"
scan_fault_text errors.BadEscape = codes "bad escape"
scan_fault_text errors.OpenQuote = codes "open quote"
scan_fault_text errors.BadBracket = codes "bad bracket"
scan_fault_text errors.BadNumber = codes "bad number"
scan_fault_text errors.BadName = codes "bad name"
scan_fault_text errors.BadAddress = codes "bad address"
scan_fault_text errors.BadBase64 = codes "bad base64"
scan_fault_text errors.BadBase16 = codes "bad base16"
scan_fault_text errors.EmptyParam = codes "empty parameter"
scan_fault_text errors.BadKeyChar = codes "bad key character"
scan_fault_text errors.UnknownKey = codes "unknown key"
scan_fault_text errors.MissingValue = codes "missing value"
scan_fault_text errors.UnexpectedValue = codes "unexpected value"
scan_fault_text errors.BadListEscape = codes "escape in list"
scan_fault_text errors.EmptyItem = codes "empty item"
scan_fault_text errors.LongItem = codes "long item"
scan_fault_text errors.BadPort = codes "bad port"
scan_fault_text errors.KeyZeroInMandatory = codes "mandatory in mandatory"
scan_fault_text errors.DuplicateItem = codes "duplicate item"
scan_fault_text errors.DuplicateKey = codes "duplicate key"
scan_fault_text errors.MandatoryMissing = codes "mandatory key missing"
scan_fault_text errors.BadUtf8 = codes "bad utf-8"
scan_fault_text errors.LongValue = codes "long value"
scan_fault_text errors.LongRecord = codes "long record data"
scan_fault_text errors.WrongGateway = codes "wrong gateway"
scan_fault_text errors.UnknownGateway = codes "unknown gateway type"
scan_fault_text errors.MissingKey = codes "missing key"
scan_fault_text errors.UnknownType = codes "unknown type"
scan_fault_text errors.TrailingTokens = codes "trailing tokens"
scan_fault_text errors.NoMemory = codes "want of memory"
