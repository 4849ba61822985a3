-- The parts of the scan of a record's data.
use Rattle.std.specs.Prelude.{ℕ, List}
use Rattle.text_spec.specs.Scanning.{Scanning, done}
use Rattle.record_spec.specs.Rows.{Row}
use Rattle.record_spec.specs.Texts.{numbers_then}

-- the numbers of the fixed fields
abbrev pub scan_numbers : Row → Scanning (List ℕ)
scan_numbers row = numbers_then row.fields (λ numbers tokens place. done numbers place)
