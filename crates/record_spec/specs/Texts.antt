-- The texts of the data of these records, scanned and printed.
use Rattle.std.specs.Prelude.{ℕ, ◌^◌, Bool, true, false, nat_lt, if◌then◌else◌, List, [], ◌∷◌, ◌++◌, codes}
use Rattle.std.specs.List.{flat_map}
use Rattle.std.specs.Fmt.{decimal}
use Rattle.hex.specs.Hex.{encode_lower}
use Rattle.text_spec.specs.declared.errors.ScanError.TheVariants.{LongRecord}
use Rattle.text_spec.specs.Scanning.{Scanning, scan_then, done, refused}
use Rattle.text_spec.specs.Encodings.{base16_text, base64_text}
use Rattle.text_spec.specs.Rows.{number_below, rest_base16, rest_base64}
use Rattle.record_spec.specs.declared.Encoding.{Encoding}
use Rattle.record_spec.specs.declared.Encoding.TheVariants.{Base16, Base64}
use Rattle.record_spec.specs.Rows.{Field, Row, Data, data_len}

-- ---- scanned

-- a number text for each fixed field, and then what follows their numbers
abbrev pub numbers_then : {V : Type 0} → List Field → (List ℕ → Scanning V) → Scanning V
numbers_then [] next tokens place = next [] tokens place
numbers_then (field ∷ fields) next tokens place =
    scan_then (number_below (256 ^ field.width) tokens place) (λ n after.
    numbers_then fields (λ numbers. next (n ∷ numbers)) tokens after)

-- all tokens left, as the octets of the last field
abbrev pub rest_encoded : Encoding → Scanning (List ℕ)
rest_encoded Base16 = rest_base16
rest_encoded Base64 = rest_base64

-- data of at most 65,535 octets, all of whose tokens are taken
abbrev pub within_length : Row → Data → Scanning Data
within_length row found tokens end =
    if nat_lt 65535 (data_len row found) then refused LongRecord end else done found end

-- the last field, behind the numbers
abbrev pub scan_last : Row → List ℕ → Scanning Data
scan_last row numbers tokens place =
    scan_then (rest_encoded row.encoding tokens place) (λ octets end.
    within_length row (record { numbers = numbers; last = octets }) tokens end)

-- the numbers in turn, and then the last field
abbrev pub scan_data : Row → Scanning Data
scan_data row = numbers_then row.fields (scan_last row)

-- ---- printed

-- the numbers, each with a space behind it
abbrev pub numbers_printed : List ℕ → List ℕ
numbers_printed numbers = flat_map (λ n. decimal n ++ codes " ") numbers

-- the last field: bare, with base16 in lower case, or in brackets, with base16 in upper case
abbrev pub last_printed : Encoding → Bool → List ℕ → List ℕ
last_printed Base16 false octets = encode_lower octets
last_printed Base16 true octets = codes "( " ++ base16_text octets ++ codes " )"
last_printed Base64 false octets = base64_text octets
last_printed Base64 true octets = codes "( " ++ base64_text octets ++ codes " )"

-- the text of data
abbrev pub fields_printed : Row → Data → List ℕ
fields_printed row found =
    numbers_printed found.numbers ++ last_printed row.encoding row.in_brackets found.last
