-- How long the texts of numbers and last fields are, and of octets of any type.
use Rattle.std.proofs.Common.{ℕ, ◌+◌, ◌*◌, ◌^◌, ◌<◌, ◌≤◌, Bool, true, false, List, [], ◌∷◌, ◌++◌, length, codes, arith, length-append}
use Rattle.std.proofs.lemmas.Fmt.{length-decimal-le}
use Rattle.std.specs.Fmt.{decimal}
use Rattle.hex.specs.Hex.{lower_digits, upper_digits}
use Rattle.hex.proofs.HexLemmas.{length-encode_with}
use Rattle.wire_records.specs.Texts.{base16_behind}
use Rattle.text_spec.specs.Encodings.{base16_text, base64_text}
use Rattle.record_spec.specs.declared.Encoding.{Encoding}
use Rattle.record_spec.specs.declared.Encoding.TheVariants.{Base16, Base64}
use Rattle.record_spec.specs.Rows.{Field, Row, AreNumbers, cds, cdnskey, sshfp, tlsa, zonemd, openpgpkey}
use Rattle.record_spec.specs.Texts.{numbers_printed, last_printed}
use Rattle.record_laws.specs.RecordLaws.{AreSmall}
use Rattle.svcb_laws.proofs.PieceLengths.{number-length, base64-length}
use Rattle.record_laws.specs.TextLengthLaws.{FieldsTextByOctets, LineFits, TypesLinesFit, UnknownTextByOctets}

-- ---- numbers

abbrev spaced : ℕ → List ℕ
spaced n = decimal n ++ codes " "

numbers-length : (fields : List Field) (numbers : List ℕ) → AreNumbers fields numbers
    → AreSmall fields
    → length (numbers_printed numbers) ≤ 21 * length fields
numbers-length [] [] are small = omega arith
numbers-length [] (n ∷ numbers) are small = absurd are
numbers-length (field ∷ fields) [] are small = absurd are
numbers-length (field ∷ fields) (n ∷ numbers) are small =
    let below : n < 256 ^ field.width = are.0 in
    let most : 256 ^ field.width ≤ 2 ^ 64 = small.0 in
    let first : length (decimal n) ≤ 20 =
    length-decimal-le 20 n (omega arith) (omega arith) (omega arith) in
    let others = numbers-length fields numbers are.1 small.1 in
    omega (
      arith,
      first,
      others,
      length-append (decimal n) (codes " "),
      length-append (spaced n)
          (numbers_printed numbers),
    )

-- ---- last fields

pub last-length : (encoding : Encoding) (in_brackets : Bool) (octets : List ℕ)
    → length (last_printed encoding in_brackets octets) ≤ 2 * length octets + 6
last-length Base16 false octets = omega (arith, length-encode_with lower_digits octets)
last-length Base16 true octets =
    omega (
      arith,
      length-encode_with upper_digits octets,
      length-append
          (codes "( " ++ base16_text octets) (codes " )"),
    )
last-length Base64 false octets = omega (arith, base64-length octets)
last-length Base64 true octets =
    omega (
      arith,
      base64-length octets,
      length-append (codes "( " ++ base64_text octets)
          (codes " )"),
    )

pub fields-length : FieldsTextByOctets
fields-length row small found is =
    let numbers = numbers-length row.fields found.numbers is.numbers small in
    let last = last-length row.encoding row.in_brackets found.last in
    omega (
      arith,
      numbers,
      last,
      length-append (numbers_printed found.numbers)
          (last_printed row.encoding row.in_brackets found.last),
    )

-- ---- lines

line-length : (row : Row) → AreSmall row.fields → length row.fields ≤ 3 → LineFits row
line-length row small few found is =
    let text = fields-length row small found is in
    let fits = is.fits in
    omega (
      arith,
      few,
      text,
      fits,
      length-append
          (numbers_printed found.numbers ++ last_printed row.encoding row.in_brackets found.last)
          (10 ∷ []),
    )

pub types-fit : TypesLinesFit
types-fit = record {
  cds_fits = line-length cds (omega arith, (omega arith, (omega arith, tt))) (omega arith);
  cdnskey_fits = line-length cdnskey (omega arith, (omega arith, (omega arith, tt))) (omega arith);
  sshfp_fits = line-length sshfp (omega arith, (omega arith, tt)) (omega arith);
  tlsa_fits = line-length tlsa (omega arith, (omega arith, (omega arith, tt))) (omega arith);
  zonemd_fits = line-length zonemd (omega arith, (omega arith, (omega arith, tt))) (omega arith);
  openpgpkey_fits = line-length openpgpkey tt (omega arith);
}

-- ---- octets of any type

behind-length : (octets : List ℕ) → length (base16_behind octets) ≤ 2 * length octets + 1
behind-length [] = omega arith
behind-length (octet ∷ octets) = omega (arith, length-encode_with upper_digits (octet ∷ octets))

pub unknown-length : UnknownTextByOctets
unknown-length octets few =
    let count = number-length (length octets) (omega arith) in
    let behind = behind-length octets in
    omega (
      arith,
      count,
      behind,
      length-append (codes "\\# " ++ decimal (length octets))
          (base16_behind octets),
    )
