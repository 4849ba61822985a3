-- The texts of data, printed or laid out, are scanned as that data.
use Rattle.std.proofs.Common.{◌≡◌, ℕ, zero, suc, ◌<◌, get_or, ◌+◌, ◌/◌, ◌%◌, Bool, true, false, List, [], ◌∷◌, ◌++◌, length, Some, refl, sym, ap, ap₂, ◌∙◌, subst, length-append, arith, append_assoc}
use Rattle.std.proofs.lemmas.List.{length-map}
use Rattle.std.proofs.lemmas.Bool.{and_parts}
use Rattle.std.specs.List.{list_all}
use Rattle.std.specs.Result.{result_ok}
use Rattle.hex.specs.Hex.{encode_with, encode_lower, lower_digits}
use Rattle.hex.proofs.HexLemmas.{decode_of-encode_lower}
use Rattle.name_spec.specs.AddressLaws.{AreOctets}
use Rattle.text_spec.specs.declared.errors.ScanError.TheVariants.{BadBase16, BadBase64, LongRecord}
use Rattle.text_spec.specs.declared.lexeme.Symbol.{Symbol}
use Rattle.text_spec.specs.Pieces.{is_bare}
use Rattle.text_spec.specs.Scanning.{Scanned, scan_then, done}
use Rattle.text_spec.specs.Encodings.{base16_of, base16_text, base64_of, base64_text}
use Rattle.text_spec.specs.Layouts.{Token, BlockBegin, BlockEnd, AreTokenTexts}
use Rattle.text_spec.proofs.EncodingTexts.{octet_at, base16_again, base64_again}
use Rattle.text_spec.proofs.PlainTexts.{ArePlain, ArePlain-base16, ArePlain-base64}
use Rattle.text_spec.proofs.Splits.{layout_splits}
use Rattle.text_spec.proofs.TokenTexts.{EntryText}
use Rattle.record_spec.specs.declared.Encoding.{Encoding}
use Rattle.record_spec.specs.declared.Encoding.TheVariants.{Base16, Base64}
use Rattle.record_spec.specs.Rows.{Row, Data, IsAssociationData, data_len}
use Rattle.record_spec.specs.Texts.{rest_encoded, scan_last, scan_data, within_length, last_printed, fields_printed}
use Rattle.record_spec.specs.Documents.{numbers_items, last_field_text, data_document}
use Rattle.record_spec.specs.DocumentLaws.{document-data}
use Rattle.record_laws.specs.RecordLaws.{AreSmall, AreScannedAs, FieldsTextReadBack, FieldsLayoutReadBack}
use Rattle.record_laws.proofs.Scans.{rest_taken, within}
use Rattle.record_laws.proofs.Texts.{number_token, number_tokens, each_small, numbers_scanned, numbers_on, numbers_front, text_tokens, octets-text_tokens, bare_text, bracketed_text, last_front, text_of}

-- ---- the last field

-- a text that is read as these octets
abbrev IsRead : Encoding → List ℕ → List ℕ → Type 0
IsRead Base16 text octets = base16_of text ≡ Some octets
IsRead Base64 text octets = base64_of text ≡ Some octets

-- what stands in the brackets of a last field, or all of it
abbrev inner_text : Encoding → Bool → List ℕ → List ℕ
inner_text Base16 false octets = encode_lower octets
inner_text Base16 true octets = base16_text octets
inner_text Base64 in_brackets octets = base64_text octets

bare_at : (text : List ℕ) (i : ℕ) → list_all is_bare text ≡ true → i < length text
    → is_bare (get_or text i 0) ≡ true
bare_at [] i bare within = absurd (omega arith)
bare_at (c ∷ text) zero bare within = (and_parts (is_bare c) (list_all is_bare text) bare).0
bare_at (c ∷ text) (suc i) bare within =
    bare_at text i (and_parts (is_bare c) (list_all is_bare text) bare).1 (omega arith)

ArePlain-lower : (octets : List ℕ) → AreOctets octets → ArePlain (encode_lower octets)
unfolding encode_with
ArePlain-lower [] are = tt
ArePlain-lower (c ∷ octets) are =
    let fits = are.0 in (
      bare_at lower_digits (c / 16) refl (omega arith),
      (bare_at lower_digits (c % 16) refl (omega arith), ArePlain-lower octets are.1),
    )

inner_read : (encoding : Encoding) (in_brackets : Bool) (octets : List ℕ) → AreOctets octets
    → IsRead encoding (inner_text encoding in_brackets octets) octets
inner_read Base16 false octets are =
    ap result_ok (decode_of-encode_lower octets (octet_at octets are))
inner_read Base16 true octets are = base16_again octets are
inner_read Base64 in_brackets octets are = base64_again octets are

inner_plain : (encoding : Encoding) (in_brackets : Bool) (octets : List ℕ) → AreOctets octets
    → ArePlain (inner_text encoding in_brackets octets)
inner_plain Base16 false octets are = ArePlain-lower octets are
inner_plain Base16 true octets are = ArePlain-base16 octets are
inner_plain Base64 in_brackets octets are = ArePlain-base64 octets are

-- its token is scanned
rest_scanned : (encoding : Encoding) (text octets : List ℕ) (front : List (List Symbol))
    → IsRead encoding text octets
    → rest_encoded encoding (front ++ text_tokens text) (length front)
    ≡ done octets (length (front ++ text_tokens text))
rest_scanned Base16 text octets front is =
    rest_taken base16_of BadBase16 front (text_tokens text) octets
    (ap base16_of (octets-text_tokens text) ∙ is)
rest_scanned Base64 text octets front is =
    rest_taken base64_of BadBase64 front (text_tokens text) octets
    (ap base64_of (octets-text_tokens text) ∙ is)

-- its text has that token
last_text : (encoding : Encoding) (in_brackets : Bool) (octets : List ℕ) → AreOctets octets
    → EntryText 0 (last_printed encoding in_brackets octets)
    (text_tokens (inner_text encoding in_brackets octets))
last_text Base16 false octets are = bare_text (encode_lower octets) (ArePlain-lower octets are)
last_text Base16 true octets are = bracketed_text (base16_text octets) (ArePlain-base16 octets are)
last_text Base64 false octets are = bare_text (base64_text octets) (ArePlain-base64 octets are)
last_text Base64 true octets are = bracketed_text (base64_text octets) (ArePlain-base64 octets are)

encoded_is : (encoding : Encoding) (octets : List ℕ)
    → inner_text encoding true octets ≡ last_field_text encoding octets
encoded_is Base16 octets = refl
encoded_is Base64 octets = refl

-- ---- data

-- the tokens of data
abbrev data_tokens : Data → List ℕ → List (List Symbol)
data_tokens found text = number_tokens found.numbers ++ text_tokens text

-- they are scanned as it
data_scanned : (row : Row) (found : Data) (text : List ℕ) → AreSmall row.fields
    → IsAssociationData row found → IsRead row.encoding text found.last
    → AreScannedAs (scan_data row) (data_tokens found text) found
data_scanned row found text small is read front =
    let numbers = number_tokens found.numbers in
    let last = text_tokens text in
    let taken = front ++ numbers in
    let tokens = taken ++ last in
    let onward : List ℕ → ℕ → Scanned Data =
    λ octets end. within_length row (record { numbers = found.numbers; last = octets }) tokens
    end in
    let moved : front ++ (numbers ++ last) ≡ tokens = sym (append_assoc front numbers last) in
    let place : length front + length found.numbers ≡ length taken =
    omega (arith, length-append front numbers, length-map found.numbers number_token) in
    let end : length tokens ≡ length front + length (numbers ++ last) =
    omega (
      arith,
      length-append taken last,
      length-append front numbers,
      length-append numbers last,
    ) in
    numbers_scanned row.fields found.numbers small is.numbers (scan_last row) front last
    ∙ ap₂ (λ (ts : List (List Symbol)) (at : ℕ). scan_last row found.numbers ts at) moved place
    ∙ ap (λ (s : Scanned (List ℕ)). scan_then s onward)
    (rest_scanned row.encoding text found.last taken read)
    ∙ within (data_len row found) (length tokens) LongRecord found is.fits
    ∙ ap (done found) end

pub data_text_again : FieldsTextReadBack
data_text_again row is_row found is =
    let text = inner_text row.encoding row.in_brackets found.last in
    let last = last_printed row.encoding row.in_brackets found.last in
    let small = each_small row.fields found.numbers is_row.small is.numbers in
    text_of (scan_data row) (fields_printed row found) found (data_tokens found text)
    (numbers_on found.numbers last (text_tokens text) small
    (last_text row.encoding row.in_brackets found.last is.octets))
    (data_scanned row found text is_row.small is
    (inner_read row.encoding row.in_brackets found.last is.octets))

-- ---- layouts

data_front : (row : Row) (found : Data) → AreSmall row.fields → IsAssociationData row found
    → AreTokenTexts (data_document row found)
    (data_tokens found (last_field_text row.encoding found.last))
data_front row found small is =
    let text = last_field_text row.encoding found.last in
    let plain = subst ArePlain (encoded_is row.encoding found.last)
    (inner_plain row.encoding true found.last is.octets) in
    let items = numbers_items row.fields found.numbers in
    subst (λ (all : List _). AreTokenTexts (BlockBegin ∷ all) (data_tokens found text))
    (sym (append_assoc items (Token text ∷ []) (BlockEnd ∷ [])))
    (numbers_front row.fields found.numbers (Token text ∷ BlockEnd ∷ [])
    (text_tokens text) is.numbers (each_small row.fields found.numbers small is.numbers)
    (last_front text plain))

pub data_layout_again : FieldsLayoutReadBack
data_layout_again row is_row found is kind =
    let text = last_field_text row.encoding found.last in
    let read = subst (λ t. IsRead row.encoding t found.last) (encoded_is row.encoding found.last)
    (inner_read row.encoding true found.last is.octets) in
    let tokens = data_tokens found text in
    text_of (scan_data row) _ found tokens
    (layout_splits kind (data_document row found) tokens (document-data row is_row.documents found)
    (data_front row found is_row.small is))
    (data_scanned row found text is_row.small is read)
