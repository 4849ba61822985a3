-- The printed texts of addresses and of octets are scanned under their type numbers.
use Rattle.std.proofs.Common.{◌≡◌, ℕ, ◌+◌, ◌^◌, ◌<◌, ◌≤◌, Bool, true, false, cond, List, [], ◌∷◌, ◌++◌, length, Option, Some, None, refl, ap, ap₂, ◌∙◌, arith, length-append}
use Rattle.std.proofs.lemmas.Bool.{and_parts}
use Rattle.std.proofs.lemmas.Bool.Decides.{nat_tests}
use Rattle.std.specs.Prelude.{◌==◌, codes}
use Rattle.std.specs.List.{flat_map}
use Rattle.std.specs.Fmt.{decimal}
use Rattle.std.specs.Option.{ok_or}
use Rattle.std.specs.Net.Reader.{read_ipv4, read_ipv6, read_octet, read_number, read_segments, read_segment}
use Rattle.hex.specs.Hex.{encode_with}
use Rattle.name_spec.specs.Addresses.{ipv4_of, ipv6_of, ipv4_text, ipv6_text}
use Rattle.name_spec.specs.Printed.{Escaped}
use Rattle.name_spec.specs.AddressLaws.{AreOctets}
use Rattle.name_spec.proofs.AddressTexts.{ipv4_again, ipv6_again}
use Rattle.wire_records.specs.UnknownView.{UnknownData}
use Rattle.wire_records.specs.Texts.{base16_behind, unknown_text}
use Rattle.text_spec.specs.declared.errors.ScanError.TheVariants.{BadAddress, BadNumber, BadBase16}
use Rattle.text_spec.specs.declared.lexeme.Symbol.{Symbol}
use Rattle.text_spec.specs.Encodings.{base16_of, base16_text}
use Rattle.text_spec.specs.Pieces.{Bare, HasTokens, IsTokenText}
use Rattle.text_spec.specs.Scanning.{Scanned, octets_of, one, by_octets, scan_then, done, refused, is_marker}
use Rattle.text_spec.proofs.EncodingTexts.{base16_again}
use Rattle.text_spec.proofs.PlainTexts.{ArePlain-base16, ipv4_token, ipv6_token}
use Rattle.text_spec.proofs.TokenTexts.{GapText, has_no_tokens, blank_on, token_on, has_token}
use Rattle.text_spec.specs.Rows.{unknown_data, rest_base16}
use Rattle.record_spec.specs.Ipseckeys.{IsAddress}
use Rattle.record_laws.specs.RecordLaws.{AreScannedAs, IsScannedAs}
use Rattle.record_laws.proofs.Scans.{moved_on, place_on, marked_behind, one_taken, rest_taken}
use Rattle.record_laws.proofs.Texts.{number_token, number_text, number_scanned, text_tokens, octets-text_tokens, bare_text, text_of}
use Rattle.record_laws.proofs.UnionFields.{none_left}
use Rattle.record_spec.specs.RecordData.{RecordData, A, Aaaa, Unknown}
use Rattle.record_spec.specs.UnionTexts.{scan_as, octets_under, scan_fields, at_end, union_scan}

-- ---- addresses

same_number : (a b : ℕ) → (a == b) ≡ true → a ≡ b
same_number a b is = grind (arith, nat_tests)

-- the marker's octets
marker_octets : (token : List Symbol) → is_marker token ≡ true → octets_of token ≡ 35 ∷ []
marker_octets [] is = absurd cc
marker_octets (symbol ∷ []) is =
    ap (λ (c : ℕ). c ∷ [])
    (same_number symbol.octet 35 (and_parts symbol.escaped (symbol.octet == 35) is).1)
marker_octets (symbol ∷ next ∷ symbols) is = absurd cc

by_test : (test : Bool) → (test ≡ true → ⊥) → test ≡ false
by_test true never = absurd (never refl)
by_test false never = refl

-- a token that is read as an address is no marker
not_marker : (read : List ℕ → Option (List ℕ)) (token : List Symbol) (address : List ℕ)
    → read (35 ∷ []) ≡ None → read (octets_of token) ≡ Some address
    → is_marker token ≡ false
not_marker read token address none some =
    by_test (is_marker token) (λ is. let same = ap read (marker_octets token is) in absurd cc)

-- and its scan is whole
address_scanned : (type : List ℕ → RecordData) (read : List ℕ → Option (List ℕ)) (rtype : ℕ)
    (address : List ℕ) (token : List Symbol)
    → ((tokens : List (List Symbol)) (place : ℕ) → scan_fields rtype tokens place
    ≡ scan_as type (one (by_octets read BadAddress)) tokens place)
    → read (35 ∷ []) ≡ None → read (octets_of token) ≡ Some address
    → AreScannedAs (union_scan rtype) (token ∷ []) (type address)
address_scanned type read rtype address token fields none some front =
    let tokens = front ++ token ∷ [] in
    let place = length front in
    let ending : RecordData → ℕ → Scanned RecordData = λ found end. at_end found tokens end in
    let marked : Scanned RecordData = scan_as (octets_under rtype) unknown_data tokens (place + 1)
    in
    ap (λ (b : Bool). scan_then (cond b marked (scan_fields rtype tokens place)) ending)
    (marked_behind front (token ∷ []) ∙ not_marker read token address none some)
    ∙ ap (λ (s : Scanned RecordData). scan_then s ending) (fields tokens place)
    ∙ ap (λ (s : Scanned (List ℕ)). scan_then
    (scan_then s (λ found after. done (type found) after)) ending)
    (one_taken (by_octets read BadAddress) front [] token address
    (ap (λ (r : Option (List ℕ)). ok_or r BadAddress) some))
    ∙ none_left front (token ∷ []) (type address)

pub a_text_again : (address : List ℕ) → IsAddress 4 address
    → IsScannedAs (union_scan 1) (ipv4_text address) (A address)
unfolding read_ipv4 read_octet read_number
a_text_again address is =
    let own = ipv4_token address is.0 is.1 in
    let read : ipv4_of (octets_of own.0) ≡ Some address =
    ap ipv4_of own.2 ∙ ipv4_again address is.0 is.1 in
    text_of (union_scan 1) (ipv4_text address) (A address) (own.0 ∷ [])
    (has_token (ipv4_text address) own.0 own.1)
    (address_scanned A ipv4_of 1 address own.0 (λ tokens place. refl) refl read)

pub aaaa_text_again : (address : List ℕ) → IsAddress 16 address
    → IsScannedAs (union_scan 28) (ipv6_text address) (Aaaa address)
unfolding read_ipv6 read_segments read_ipv4 read_octet read_number read_segment
aaaa_text_again address is =
    let own = ipv6_token address is.0 is.1 in
    let read : ipv6_of (octets_of own.0) ≡ Some address =
    ap ipv6_of own.2 ∙ ipv6_again address is.0 is.1 in
    text_of (union_scan 28) (ipv6_text address) (Aaaa address) (own.0 ∷ [])
    (has_token (ipv6_text address) own.0 own.1)
    (address_scanned Aaaa ipv6_of 28 address own.0 (λ tokens place. refl) refl read)

-- ---- octets

marker : List Symbol
marker = record { octet = 35; escaped = true } ∷ []

marker_text : IsTokenText (codes "\\#") marker
unfolding marker
marker_text = (Bare (Escaped 35) ∷ [], (refl, tt), refl, refl)

-- the octets behind their count
octets_on : (octets : List ℕ) → AreOctets octets
    → GapText 0 (base16_behind octets) (text_tokens (base16_text octets))
unfolding encode_with
octets_on [] are = has_no_tokens
octets_on (octet ∷ octets) are =
    let text = base16_text (octet ∷ octets) in
    blank_on 0 text (text_tokens text) 32 refl
    (bare_text text (ArePlain-base16 (octet ∷ octets) are))

-- the tokens of a count and octets
abbrev counted_tokens : List ℕ → List (List Symbol)
counted_tokens octets = number_token (length octets) ∷ text_tokens (base16_text octets)

abbrev octets_tokens : List ℕ → List (List Symbol)
octets_tokens octets = marker ∷ counted_tokens octets

text_has : (octets : List ℕ) → AreOctets octets → length octets ≤ 65535
    → HasTokens (unknown_text octets) (octets_tokens octets)
text_has octets are fits =
    let n = length octets in
    let small : n < 2 ^ 64 = omega arith in
    let rest = text_tokens (base16_text octets) in
    let counted = token_on 0 (base16_behind octets) rest (decimal n) (number_token n)
    (number_text n small) (octets_on octets are) in
    token_on 0 (32 ∷ decimal n ++ base16_behind octets) (number_token n ∷ rest)
    (codes "\\#") marker marker_text
    (blank_on 0 (decimal n ++ base16_behind octets) (number_token n ∷ rest) 32 refl counted)

itself : (n : ℕ) → (n == n) ≡ true
itself n = grind (arith, nat_tests)

-- what stands behind the marker is scanned as the octets
counted_scanned : (octets : List ℕ) (front : List (List Symbol)) → AreOctets octets
    → length octets ≤ 65535
    → unknown_data (front ++ counted_tokens octets) (length front)
    ≡ done octets (length front + length (counted_tokens octets))
counted_scanned octets front are fits =
    let n = length octets in
    let token = number_token n in
    let rest = text_tokens (base16_text octets) in
    let taken = front ++ token ∷ [] in
    let counted : ℕ → List ℕ → ℕ → Scanned (List ℕ) =
    λ count octets end. cond (length octets == count) (done octets end)
    (refused BadNumber (length front)) in
    let end : length (taken ++ rest) ≡ length front + length (token ∷ rest) =
    omega (arith, length-append taken rest, length-append front (token ∷ [])) in
    let read : base16_of (flat_map octets_of rest) ≡ Some octets =
    ap base16_of (octets-text_tokens (base16_text octets)) ∙ base16_again octets are in
    ap (λ (s : Scanned ℕ). scan_then s
    (λ count after. scan_then (rest_base16 (front ++ token ∷ rest) after) (counted count)))
    (number_scanned (2 ^ 16) n front rest (omega arith) (omega arith))
    ∙ ap₂ (λ (ts : List (List Symbol)) (at : ℕ). scan_then (rest_base16 ts at) (counted n))
    (moved_on front rest token) (place_on front token)
    ∙ ap (λ (s : Scanned (List ℕ)). scan_then s (counted n))
    (rest_taken base16_of BadBase16 taken rest octets read)
    ∙ ap (λ (b : Bool). cond b (done octets (length (taken ++ rest)))
    (refused BadNumber (length front))) (itself n)
    ∙ ap (done octets) end

octets_scanned : (rtype : ℕ) (octets : List ℕ) → AreOctets octets → length octets ≤ 65535
    → AreScannedAs (union_scan rtype) (octets_tokens octets) (octets_under rtype octets)
unfolding marker
octets_scanned rtype octets are fits front =
    let tokens = front ++ octets_tokens octets in
    let place = length front in
    let counted = counted_tokens octets in
    let taken = front ++ marker ∷ [] in
    let ending : RecordData → ℕ → Scanned RecordData = λ found end. at_end found tokens end in
    let held : List ℕ → ℕ → Scanned RecordData =
    λ octets after. done (octets_under rtype octets) after in
    let end : length taken + length counted ≡ place + length (octets_tokens octets) =
    omega (arith, length-append front (marker ∷ [])) in
    ap (λ (b : Bool). scan_then (cond b
    (scan_as (octets_under rtype) unknown_data tokens (place + 1))
    (scan_fields rtype tokens place)) ending) (marked_behind front (octets_tokens octets))
    ∙ ap₂ (λ (ts : List (List Symbol)) (at : ℕ).
    scan_then (scan_then (unknown_data ts at) held) ending)
    (moved_on front counted marker) (place_on front marker)
    ∙ ap (λ (s : Scanned (List ℕ)). scan_then (scan_then s held) ending)
    (counted_scanned octets taken are fits)
    ∙ ap (λ (n : ℕ). at_end (octets_under rtype octets) tokens n) end
    ∙ none_left front (octets_tokens octets) (octets_under rtype octets)

pub unknown_text_again : (found : UnknownData) → AreOctets found.octets
    → length found.octets ≤ 65535
    → IsScannedAs (union_scan found.rtype) (unknown_text found.octets) (Unknown found)
unknown_text_again found are fits =
    text_of (union_scan found.rtype) (unknown_text found.octets) (Unknown found)
    (octets_tokens found.octets) (text_has found.octets are fits)
    (octets_scanned found.rtype found.octets are fits)
