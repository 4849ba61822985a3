-- What is scanned is data.
use Rattle.std.proofs.Common.{◌≡◌, ℕ, zero, suc, ◌^◌, ◌<◌, Bool, true, false, cond, List, [], ◌∷◌, length, drop, Option, Some, None, Result, Ok, Err, refl, sym, ap, ◌∙◌, subst, arith}
use Rattle.std.specs.Prelude.{slice_get, nat_lt, ◌&&◌}
use Rattle.std.specs.Option.{ok_or}
use Rattle.std.specs.List.{flat_map}
use Rattle.std.specs.Str.Parse.{digits_value, without_leading_plus}
use Rattle.std.proofs.lemmas.Bool.{and_parts}
use Rattle.std.proofs.lemmas.Bool.Decides.{nat_tests}
use Rattle.name_spec.specs.AddressLaws.{AreOctets}
use Rattle.registry.specs.Texts.{is_numeral, spelled_number}
use Rattle.text_spec.specs.declared.errors.ScanError.{ScanError}
use Rattle.text_spec.specs.declared.errors.ScanError.TheVariants.{EndOfEntry, BadNumber, BadBase16, BadBase64, LongRecord}
use Rattle.text_spec.specs.declared.lexeme.Symbol.{Symbol}
use Rattle.text_spec.specs.Scanning.{octets_of, Scanned, Scanning, done, refused, at_token, next_token, by_octets, one, rest_by, scan_then}
use Rattle.text_spec.specs.Encodings.{base16_of, base64_of}
use Rattle.text_spec.proofs.EncodingTexts.{AreOctets-base16_of, AreOctets-base64_of}
use Rattle.text_spec.specs.Rows.{number_below}
use Rattle.record_spec.specs.declared.Encoding.{Encoding}
use Rattle.record_spec.specs.declared.Encoding.TheVariants.{Base16, Base64}
use Rattle.record_spec.specs.Rows.{Field, Row, Data, AreNumbers, IsAssociationData, data_len}
use Rattle.record_spec.specs.Texts.{numbers_then, rest_encoded, within_length, scan_last}
use Rattle.text_spec.proofs.OctetParts.{AreOctets-split}
use Rattle.record_laws.specs.RecordLaws.{ScannedIsData}
use Rattle.record_laws.proofs.Octets.{above}

-- ---- scans that end in an Ok

module _ {A B : Type 0} where
  first_outcome : (outcome : Result A ScanError) (place : ℕ) (next : A → ℕ → Scanned B) (y : B)
      (end : ℕ)
      → scan_then (record { outcome = outcome; place = place }) next ≡ done y end
      → (x : A) × (outcome ≡ Ok x) × (next x place ≡ done y end)
  first_outcome (Ok x) place next y end is = (x, refl, is)
  first_outcome (Err fault) place next y end is =
      absurd (let outcomes = ap (λ (s : Scanned B). s.outcome) is in cc)

  -- what stands before an Ok is one
  pub first_done : (first : Scanned A) (next : A → ℕ → Scanned B) (y : B) (end : ℕ)
      → scan_then first next ≡ done y end
      → (x : A) × (first ≡ done x first.place) × (next x first.place ≡ done y end)
  first_done first next y end is =
      let found = first_outcome first.outcome first.place next y end is in (
        found.0,
        ap (λ (o : Result A ScanError). record { outcome = o; place = first.place })
            found.1,
        found.2,
      )

module _ {V : Type 0} where
  at_token-done : (place : ℕ) (answer : Result V ScanError) (x : V) (end : ℕ)
      → at_token place answer ≡ done x end → answer ≡ Ok x
  at_token-done place (Ok y) x end is = ap (λ (s : Scanned V). s.outcome) is
  at_token-done place (Err fault) x end is =
      absurd (let outcomes = ap (λ (s : Scanned V). s.outcome) is in cc)

  abbrev meant : (List Symbol → Result V ScanError) → Option (List Symbol) → Result V ScanError
  meant meaning token = elim token [ None ↦ Err EndOfEntry | Some token ↦ meaning token ]

  token_found : (meaning : List Symbol → Result V ScanError) (token : Option (List Symbol)) (x : V)
      → meant meaning token ≡ Ok x
      → (found : List Symbol) × (token ≡ Some found) × (meaning found ≡ Ok x)
  token_found meaning None x is = absurd cc
  token_found meaning (Some token) x is = (token, refl, is)

  -- one token that is scanned means what is found
  pub one_done : (meaning : List Symbol → Result V ScanError) (tokens : List (List Symbol))
      (place : ℕ) (x : V) (end : ℕ) → one meaning tokens place ≡ done x end
      → (token : List Symbol) × (slice_get tokens place ≡ Some token) × (meaning token ≡ Ok x)
  one_done meaning tokens place x end is =
      token_found meaning (slice_get tokens place) x
      (at_token-done place (next_token meaning tokens place) x end is)

  pub read_some : (read : Option V) (fault : ScanError) (x : V) → ok_or read fault ≡ Ok x
      → read ≡ Some x
  read_some None fault x is = absurd cc
  read_some (Some y) fault x is = cc

  rest_found : (read : Option V) (fault : ScanError) (place len : ℕ) (x : V) (end : ℕ)
      → elim read [ None ↦ refused fault place | Some x ↦ done x len ] ≡ done x end
      → (read ≡ Some x) × (end ≡ len)
  rest_found None fault place len x end is =
      absurd (let outcomes = ap (λ (s : Scanned V). s.outcome) is in cc)
  rest_found (Some y) fault place len x end is =
      let outcomes = ap (λ (s : Scanned V). s.outcome) is in
      let places : len ≡ end = ap (λ (s : Scanned V). s.place) is in
      (cc, sym places)

  -- all tokens left that are scanned mean what is found
  pub rest_done : (read : List ℕ → Option V) (fault : ScanError) (tokens : List (List Symbol))
      (place : ℕ) (x : V) (end : ℕ) → rest_by read fault tokens place ≡ done x end
      → (read (flat_map octets_of (drop place tokens)) ≡ Some x) × (end ≡ length tokens)
  rest_done read fault tokens place x end is =
      rest_found (read (flat_map octets_of (drop place tokens))) fault place
      (length tokens) x end is

  -- one Ok is another only where they hold the same
  pub same_done : (x y : V) (place end : ℕ) → done x place ≡ done y end → x ≡ y
  same_done x y place end is = let outcomes = ap (λ (s : Scanned V). s.outcome) is in cc

  -- a test before an Ok refused nothing
  pub test_done : (test : Bool) (fault : ScanError) (place end : ℕ) (x y : V)
      → cond test (refused fault place) (done x place) ≡ done y end
      → (test ≡ false) × (x ≡ y) × (place ≡ end)
  test_done true fault place end x y is =
      absurd (let outcomes = ap (λ (s : Scanned V). s.outcome) is in cc)
  test_done false fault place end x y is =
      let outcomes = ap (λ (s : Scanned V). s.outcome) is in
      (refl, cc, ap (λ (s : Scanned V). s.place) is)

-- ---- numbers

below_test : (test : Bool) (v n : ℕ) → cond test (Some v) None ≡ Some n → (test ≡ true) × (v ≡ n)
below_test true v n is = (refl, cc)
below_test false v n is = absurd cc

lower : (a b : ℕ) → nat_lt a b ≡ true → a < b
lower a b is = grind (arith, nat_tests)

-- a number text spells a number below the bound
spelled_below : (bound : ℕ) (text : List ℕ) (n : ℕ) → spelled_number bound text ≡ Some n → n < bound
spelled_below bound text n is =
    let ds = without_leading_plus text in
    let tested = below_test (is_numeral ds && nat_lt (digits_value 10 ds) bound)
    (digits_value 10 ds) n is in
    let both = and_parts (is_numeral ds) (nat_lt (digits_value 10 ds) bound) tested.0 in
    subst (λ (m : ℕ). m < bound) tested.1 (lower (digits_value 10 ds) bound both.1)

-- a number that is scanned is below the bound
pub number_done : (bound : ℕ) (tokens : List (List Symbol)) (place n end : ℕ)
    → number_below bound tokens place ≡ done n end → n < bound
number_done bound tokens place n end is =
    let token = one_done (by_octets (spelled_number bound) BadNumber) tokens place n end is in
    spelled_below bound (octets_of token.0) n
    (read_some (spelled_number bound (octets_of token.0)) BadNumber n token.2)

numbers_done : {V : Type 0} (fields : List Field) (next : List ℕ → Scanning V)
    (tokens : List (List Symbol)) (place : ℕ) (y : V) (end : ℕ)
    → numbers_then fields next tokens place ≡ done y end → (numbers : List ℕ)
    × AreNumbers fields numbers × (after : ℕ) × (next numbers tokens after ≡ done y end)
numbers_done [] next tokens place y end is = ([], tt, place, is)
numbers_done {V} (field ∷ fields) next tokens place y end is =
    let number = number_below (256 ^ field.width) tokens place in
    let onward : ℕ → ℕ → Scanned V =
    λ n after. numbers_then fields (λ numbers. next (n ∷ numbers)) tokens after in
    let first = first_done number onward y end is in
    let rest = numbers_done fields (λ numbers. next (first.0 ∷ numbers)) tokens number.place y end
    first.2 in (
      first.0 ∷ rest.0,
      (number_done (256 ^ field.width) tokens place first.0 number.place first.1, rest.1),
      rest.2,
      rest.3,
    )

-- ---- the last field

octets_left : (place : ℕ) (tokens : List (List Symbol)) → AreOctets (flat_map octets_of tokens)
    → AreOctets (flat_map octets_of (drop place tokens))
octets_left zero tokens are = are
octets_left (suc place) [] are = tt
octets_left (suc place) (token ∷ tokens) are =
    octets_left place tokens (AreOctets-split (octets_of token) (flat_map octets_of tokens) are).1

pub encoded_done : (encoding : Encoding) (tokens : List (List Symbol)) (place : ℕ)
    (octets : List ℕ) (end : ℕ) → AreOctets (flat_map octets_of tokens)
    → rest_encoded encoding tokens place ≡ done octets end → AreOctets octets
    × (end ≡ length tokens)
encoded_done Base16 tokens place octets end are is =
    let found = rest_done base16_of BadBase16 tokens place octets end is in
    (AreOctets-base16_of (flat_map octets_of (drop place tokens)) octets found.0, found.1)
encoded_done Base64 tokens place octets end are is =
    let found = rest_done base64_of BadBase64 tokens place octets end is in (
      AreOctets-base64_of (flat_map octets_of (drop place tokens)) octets
          (octets_left place tokens are) found.0,
      found.1,
    )

-- ---- data

last_done : (row : Row) (numbers : List ℕ) (tokens : List (List Symbol)) (place : ℕ) (found : Data)
    (end : ℕ) → AreOctets (flat_map octets_of tokens)
    → AreNumbers row.fields numbers → scan_last row numbers tokens place ≡ done found end
    → IsAssociationData row found × (end ≡ length tokens)
last_done row numbers tokens place found end are fit is =
    let rest = rest_encoded row.encoding tokens place in
    let made : List ℕ → Data = λ octets. record { numbers = numbers; last = octets } in
    let onward : List ℕ → ℕ → Scanned Data =
    λ octets end. within_length row (made octets) tokens end in
    let first = first_done rest onward found end is in
    let octets = encoded_done row.encoding tokens place first.0 rest.place are first.1 in
    let tested = test_done (nat_lt 65535 (data_len row (made first.0))) LongRecord rest.place end
    (made first.0) found first.2 in (
      subst (IsAssociationData row) tested.1
          (record {
            numbers = fit;
            octets = octets.0;
            fits = above 65535 (data_len row (made first.0)) tested.0;
          }),
      sym tested.2 ∙ octets.1,
    )

pub scanned_data : ScannedIsData
scanned_data row tokens place end found are is =
    let numbers = numbers_done row.fields (scan_last row) tokens place found end is in
    last_done row numbers.0 tokens numbers.2 found end are numbers.1 numbers.3
