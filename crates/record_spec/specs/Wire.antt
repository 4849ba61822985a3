-- The octets of the data of these records.
use Rattle.std.specs.Prelude.{ℕ, ◌+◌, ◌*◌, ◌^◌, List, [], ◌∷◌, ◌++◌, length, take, drop, Result, Ok, Err, nat_lt, if◌then◌else◌}
use Rattle.std.specs.Int.{bytes_high_first}
use Rattle.name_spec.specs.Octets.{Fault, Short, Form}
use Rattle.wire_base.specs.Input.{Input, octets_left}
use Rattle.wire_base.specs.RecordReading.{DataRead, read_up_to}
use Rattle.record_spec.specs.Rows.{Field, Row, Data, fixed_len}

-- ---- composed

-- the numbers of fixed fields, the highest octet of each first (RFC 1035, section 2.3.2)
abbrev pub numbers_wire : List Field → List ℕ → List ℕ
numbers_wire [] numbers = []
numbers_wire (field ∷ fields) [] = []
numbers_wire (field ∷ fields) (n ∷ numbers) =
    bytes_high_first field.width n ++ numbers_wire fields numbers

-- the octets of data
abbrev pub data_wire : Row → Data → List ℕ
data_wire row found = numbers_wire row.fields found.numbers ++ found.last

-- ---- read

-- the number whose octets these are, the highest first
abbrev pub number_of_octets : List ℕ → ℕ
number_of_octets [] = 0
number_of_octets (octet ∷ octets) = octet * 256 ^ length octets + number_of_octets octets

-- the numbers of fixed fields that octets begin with
abbrev pub numbers_in : List Field → List ℕ → List ℕ
numbers_in [] octets = []
numbers_in (field ∷ fields) octets =
    number_of_octets (take field.width octets) ∷ numbers_in fields (drop field.width octets)

-- The data in octets. Where one of a fixed field is missing, or the last field has too few, they
-- are short; else more than 65,535 are not allowed.
abbrev pub read_data : Row → List ℕ → Result Data Fault
read_data row octets =
    let fixed = fixed_len row.fields in
    if nat_lt (length octets) (fixed + row.least) then Err Short
    else if nat_lt 65535 (length octets) then Err Form
    else Ok (record { numbers = numbers_in row.fields octets; last = drop fixed octets })

-- the data in all octets before the end of the data, and the place behind it
abbrev pub fields_read : Row → Input → Result (DataRead Data) Fault
fields_read row input = read_up_to input.end (read_data row (octets_left input))
