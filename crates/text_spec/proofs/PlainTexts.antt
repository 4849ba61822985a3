-- A text whose octets each stand for themselves is wholly one token of these octets: that of a
-- number, of base16 and base64, and of an address. Offered to the crates above: `plain_again`,
-- `decimal_again`, `base16_token`, `base64_token`, `ipv4_token`, `ipv6_token`, and the lemmas that
-- show that a text is plain.
use Rattle.std.proofs.Common.{◌≡◌, ℕ, zero, suc, ◌+◌, ◌*◌, ◌/◌, ◌%◌, ◌^◌, ◌<◌, ◌≤◌, true, IsTrue, List, [], ◌∷◌, ◌++◌, map, length, take, drop, replicate, get_or, codes, refl, ap, arith, length-append, length-drop}
use Rattle.std.specs.Fmt.{decimal}
use Rattle.std.specs.Prelude.{bytes_eq}
use Rattle.std.specs.Char.{digit_char}
use Rattle.std.specs.List.{flat_map, list_all, AllByRecursion}
use Rattle.std.specs.Net.Addr as net
use Rattle.std.specs.Net.Text as net_text
use Rattle.std.specs.Str.Parse.{AllDigits}
use Rattle.std.proofs.lemmas.Bool.{and_parts, cond_both}
use Rattle.std.proofs.lemmas.Bool.Decides.{nat_tests}
use Rattle.std.proofs.lemmas.Fmt.{decimal_is_IsNumeral}
use Rattle.std.proofs.lemmas.Str.Parse.{digit_from_value}
use Rattle.base64.specs.Rfc4648.{encode_symbols, padding_len}
use Rattle.hex.specs.Hex as hex
use Rattle.hex.proofs.HexLemmas.{length-encode_with}
use Rattle.name_spec.specs.Printed.{Plain, octet_text}
use Rattle.name_spec.specs.Addresses.{ipv4_text, ipv6_text}
use Rattle.name_spec.specs.AddressLaws.{AreOctets}
use Rattle.text_spec.specs.declared.lexeme.Symbol.{Symbol}
use Rattle.text_spec.specs.Pieces.{symbol_of, is_bare, IsTokenText}
use Rattle.text_spec.specs.Scanning.{octets_of}
use Rattle.text_spec.specs.Encodings.{letters, base16_text, base64_text}
use Rattle.text_spec.specs.Laws.{IsOwnToken}
use Rattle.text_spec.proofs.PrintedTexts.{AreBare, token_text-bare}
use Rattle.text_spec.proofs.EncodingTexts.{octet_at}

-- each octet stands for itself
abbrev pub ArePlain : List ℕ → Type 0
ArePlain text = AllByRecursion (λ c. IsTrue (is_bare c)) text

-- ---- a plain text is wholly one token

abbrev pub plain_token : List ℕ → List Symbol
plain_token text = map symbol_of (map Plain text)

written-plain : (text : List ℕ) → flat_map octet_text (map Plain text) ≡ text
written-plain [] = refl
written-plain (c ∷ text) = ap (λ (t : List ℕ). c ∷ t) (written-plain text)

AreBare-plain : (text : List ℕ) → ArePlain text → AreBare (map Plain text)
AreBare-plain [] h = tt
AreBare-plain (c ∷ text) h = (h.0, AreBare-plain text h.1)

pub octets_of-plain : (text : List ℕ) → octets_of (plain_token text) ≡ text
octets_of-plain [] = refl
octets_of-plain (c ∷ text) = ap (λ (t : List ℕ). c ∷ t) (octets_of-plain text)

pub token_text-plain : (text : List ℕ) → 0 < length text → ArePlain text
    → IsTokenText text (plain_token text)
token_text-plain [] some h = absurd (omega arith)
token_text-plain (c ∷ text) some h =
    rw written-plain at (token_text-bare (Plain c) (map Plain text) (AreBare-plain (c ∷ text) h))

pub plain_again : (text : List ℕ) → 0 < length text → ArePlain text → IsOwnToken text
plain_again text some h = (plain_token text, token_text-plain text some h, octets_of-plain text)

-- ---- plain texts

pub ArePlain-append : (front behind : List ℕ) → ArePlain front → ArePlain behind
    → ArePlain (front ++ behind)
ArePlain-append [] behind f b = b
ArePlain-append (c ∷ front) behind f b = (f.0, ArePlain-append front behind f.1 b)

pub ArePlain-drop : (n : ℕ) (text : List ℕ) → ArePlain text → ArePlain (drop n text)
ArePlain-drop zero text h = h
ArePlain-drop (suc n) [] h = tt
ArePlain-drop (suc n) (c ∷ text) h = ArePlain-drop n text h.1

ArePlain-replicate : (n c : ℕ) → is_bare c ≡ true → ArePlain (replicate n c)
ArePlain-replicate zero c h = tt
ArePlain-replicate (suc n) c h = (h, ArePlain-replicate n c h)

-- by a test that computes
ArePlain-test : (text : List ℕ) → list_all is_bare text ≡ true → ArePlain text
ArePlain-test [] h = tt
ArePlain-test (c ∷ text) h =
    let both = and_parts (is_bare c) (list_all is_bare text) h in
    (both.0, ArePlain-test text both.1)

plain_at : (text : List ℕ) (i : ℕ) → ArePlain text → i < length text
    → is_bare (get_or text i 0) ≡ true
plain_at [] i h lt = absurd (omega arith)
plain_at (c ∷ text) zero h lt = h.0
plain_at (c ∷ text) (suc i) h lt = plain_at text i h.1 (omega arith)

-- ---- numbers

bare-digit : (c : ℕ) → (48 ≤ c) × (c ≤ 57) → is_bare c ≡ true
bare-digit c h = grind (arith, nat_tests)

ArePlain-digits : (text : List ℕ) → AllDigits 10 text → ArePlain text
ArePlain-digits [] h = tt
ArePlain-digits (c ∷ text) h = (bare-digit c (digit_from_value c h.0), ArePlain-digits text h.1)

pub ArePlain-decimal : (n : ℕ) → n < 2 ^ 64 → ArePlain (decimal n)
ArePlain-decimal n small = ArePlain-digits (decimal n) (decimal_is_IsNumeral n small).0.1

pub decimal_again : (n : ℕ) → n < 2 ^ 64 → IsOwnToken (decimal n)
decimal_again n small =
    plain_again (decimal n) (decimal_is_IsNumeral n small).0.0 (ArePlain-decimal n small)

-- ---- base16

ArePlain-upper_digits : ArePlain hex.upper_digits
ArePlain-upper_digits = ArePlain-test hex.upper_digits refl

pub ArePlain-base16 : (octets : List ℕ) → AreOctets octets → ArePlain (base16_text octets)
unfolding hex.encode_with
ArePlain-base16 [] h = tt
ArePlain-base16 (c ∷ octets) h =
    let fits = h.0 in (
      plain_at hex.upper_digits (c / 16) ArePlain-upper_digits (omega arith),
      (
        plain_at hex.upper_digits (c % 16) ArePlain-upper_digits
            (omega arith),
        ArePlain-base16 octets h.1,
      ),
    )

pub base16_token : (octets : List ℕ) → 0 < length octets → AreOctets octets
    → IsOwnToken (base16_text octets)
base16_token octets some h =
    plain_again (base16_text octets) (omega (arith, length-encode_with hex.upper_digits octets))
    (ArePlain-base16 octets h)

-- ---- base64

ArePlain-letters : ArePlain letters
ArePlain-letters = ArePlain-test letters refl

bare-letter : (i : ℕ) → i < 64 → is_bare (get_or letters i 0) ≡ true
bare-letter i lt = plain_at letters i ArePlain-letters lt

ArePlain-symbols : (octets : List ℕ) → AreOctets octets → ArePlain (encode_symbols letters octets)
unfolding encode_symbols
ArePlain-symbols [] h = tt
ArePlain-symbols (a ∷ []) h =
    let fits = h.0 in
    (bare-letter (a / 4) (omega arith), (bare-letter (a % 4 * 16) (omega arith), tt))
ArePlain-symbols (a ∷ b ∷ []) h =
    let first = h.0 in
    let second = h.1.0 in (
      bare-letter (a / 4) (omega arith),
      (
        bare-letter (a % 4 * 16 + b / 16) (omega arith),
        (bare-letter (b % 16 * 4) (omega arith), tt),
      ),
    )
ArePlain-symbols (a ∷ b ∷ c ∷ rest) h =
    let first = h.0 in
    let second = h.1.0 in
    let third = h.1.1.0 in (
      bare-letter (a / 4) (omega arith),
      (
        bare-letter (a % 4 * 16 + b / 16) (omega arith),
        (
          bare-letter (b % 16 * 4 + c / 64) (omega arith),
          (bare-letter (c % 64) (omega arith), ArePlain-symbols rest h.1.1.1),
        ),
      ),
    )

pub ArePlain-base64 : (octets : List ℕ) → AreOctets octets → ArePlain (base64_text octets)
ArePlain-base64 octets h =
    ArePlain-append (encode_symbols letters octets) (replicate (padding_len (length octets)) 61)
    (ArePlain-symbols octets h)
    (ArePlain-replicate (padding_len (length octets)) 61 refl)

base64_some : (octets : List ℕ) → 0 < length octets → 0 < length (encode_symbols letters octets)
unfolding encode_symbols
base64_some [] some = absurd (omega arith)
base64_some (a ∷ []) some = omega arith
base64_some (a ∷ b ∷ []) some = omega arith
base64_some (a ∷ b ∷ c ∷ rest) some = omega arith

pub base64_token : (octets : List ℕ) → 0 < length octets → AreOctets octets
    → IsOwnToken (base64_text octets)
base64_token octets some h =
    let symbols = base64_some octets some in
    plain_again (base64_text octets)
    (omega (
      arith,
      length-append (encode_symbols letters octets)
          (replicate (padding_len (length octets)) 61),
    ))
    (ArePlain-base64 octets h)

-- ---- addresses

-- texts with a plain text between them
joined : (front between behind : List ℕ) → ArePlain front → ArePlain between → ArePlain behind
    → ArePlain ((front ++ between) ++ behind)
joined front between behind f t b =
    ArePlain-append (front ++ between) behind (ArePlain-append front between f t) b

joined_some : (front between behind : List ℕ) → 0 < length between
    → 0 < length ((front ++ between) ++ behind)
joined_some front between behind some =
    omega (arith, length-append (front ++ between) behind, length-append front between)

dotted_plain : (a b c d : ℕ) → a < 256 → b < 256 → c < 256 → d < 256
    → ArePlain (net_text.dotted_text a b c d)
dotted_plain a b c d la lb lc ld =
    let two = joined (decimal a) (46 ∷ []) (decimal b) (ArePlain-decimal a (omega arith))
    (refl, tt) (ArePlain-decimal b (omega arith)) in
    let three = joined ((decimal a ++ 46 ∷ []) ++ decimal b) (46 ∷ []) (decimal c) two (refl, tt)
    (ArePlain-decimal c (omega arith)) in
    joined ((((decimal a ++ 46 ∷ []) ++ decimal b) ++ 46 ∷ []) ++ decimal c) (46 ∷ [])
    (decimal d) three (refl, tt) (ArePlain-decimal d (omega arith))

dotted_some : (a b c d : ℕ) → 0 < length (net_text.dotted_text a b c d)
dotted_some a b c d =
    joined_some ((((decimal a ++ 46 ∷ []) ++ decimal b) ++ 46 ∷ []) ++ decimal c) (46 ∷ [])
    (decimal d) (omega arith)

ArePlain-ipv4 : (octets : List ℕ) → ((i : ℕ) → get_or octets i 0 < 256)
    → ArePlain (net_text.ipv4_text octets)
ArePlain-ipv4 octets fits =
    dotted_plain (get_or octets 0 0) (get_or octets 1 0) (get_or octets 2 0) (get_or octets 3 0)
    (fits 0) (fits 1) (fits 2) (fits 3)

pub ipv4_token : (octets : List ℕ) → length octets ≡ 4 → AreOctets octets
    → IsOwnToken (ipv4_text octets)
ipv4_token octets four h =
    plain_again (ipv4_text octets)
    (dotted_some (get_or octets 0 0) (get_or octets 1 0) (get_or octets 2 0)
    (get_or octets 3 0))
    (ArePlain-ipv4 octets (octet_at octets h))

bare-digit_char : (d : ℕ) → d < 16 → is_bare (digit_char d) ≡ true
bare-digit_char d lt = grind (arith, nat_tests)

-- each number is below 2^16
abbrev AreSegments : List ℕ → Type 0
AreSegments segments = AllByRecursion (λ s. s < 2 ^ 16) segments

AreSegments-take : (n : ℕ) (segments : List ℕ) → AreSegments segments
    → AreSegments (take n segments)
AreSegments-take zero segments h = tt
AreSegments-take (suc n) [] h = tt
AreSegments-take (suc n) (s ∷ segments) h = (h.0, AreSegments-take n segments h.1)

AreSegments-drop : (n : ℕ) (segments : List ℕ) → AreSegments segments
    → AreSegments (drop n segments)
AreSegments-drop zero segments h = h
AreSegments-drop (suc n) [] h = tt
AreSegments-drop (suc n) (s ∷ segments) h = AreSegments-drop n segments h.1

AreSegments-segments_of : (octets : List ℕ) → AreOctets octets
    → AreSegments (net.segments_of octets)
AreSegments-segments_of [] h = tt
AreSegments-segments_of (a ∷ []) h = tt
AreSegments-segments_of (a ∷ b ∷ octets) h =
    let high = h.0 in
    let low = h.1.0 in
    (omega arith, AreSegments-segments_of octets h.1.1)

octets_of_segments : (segments : List ℕ) → AreSegments segments → AreOctets (net.octets_of segments)
octets_of_segments [] h = tt
octets_of_segments (s ∷ segments) h =
    let fits = h.0 in
    (omega arith, (omega arith, octets_of_segments segments h.1))

ArePlain-hex : (n : ℕ) → n < 2 ^ 16 → ArePlain (net_text.hex n)
unfolding net_text.hex
ArePlain-hex n fits =
    ArePlain-drop (net_text.leading_zero_digits n)
    (digit_char (n / 0x1000) ∷ digit_char (n / 0x100 % 16) ∷ digit_char (n / 0x10 % 16)
    ∷ digit_char (n % 16) ∷ []) (
      bare-digit_char (n / 0x1000) (omega arith),
      (
        bare-digit_char (n / 0x100 % 16) (omega arith),
        (
          bare-digit_char (n / 0x10 % 16) (omega arith),
          (bare-digit_char (n % 16) (omega arith), tt),
        ),
      ),
    )

leading_few : (n : ℕ) → net_text.leading_zero_digits n < 4
leading_few n = grind (arith, nat_tests)

hex_some : (n : ℕ) → 0 < length (net_text.hex n)
unfolding net_text.hex
hex_some n =
    omega (
      arith,
      leading_few n,
      length-drop (net_text.leading_zero_digits n)
          (digit_char (n / 0x1000) ∷ digit_char (n / 0x100 % 16) ∷ digit_char (n / 0x10 % 16)
          ∷ digit_char (n % 16) ∷ []),
    )

more_groups_plain : (segments : List ℕ) → AreSegments segments
    → ArePlain (flat_map (λ s. codes ":" ++ net_text.hex s) segments)
more_groups_plain [] h = tt
more_groups_plain (s ∷ segments) h = (
  refl,
  ArePlain-append (net_text.hex s) (flat_map (λ s. codes ":" ++ net_text.hex s) segments)
      (ArePlain-hex s h.0) (more_groups_plain segments h.1),
)

groups_plain : (segments : List ℕ) → AreSegments segments → ArePlain (net_text.groups_text segments)
groups_plain [] h = tt
groups_plain (s ∷ segments) h =
    ArePlain-append (net_text.hex s) (flat_map (λ t. codes ":" ++ net_text.hex t) segments)
    (ArePlain-hex s h.0) (more_groups_plain segments h.1)

groups_some : (segments : List ℕ) → 0 < length segments → 0 < length (net_text.groups_text segments)
groups_some [] some = absurd (omega arith)
groups_some (s ∷ segments) some =
    omega (
      arith,
      hex_some s,
      length-append (net_text.hex s)
          (flat_map (λ t. codes ":" ++ net_text.hex t) segments),
    )

-- a plain text that isn't empty
abbrev IsPlainText : List ℕ → Type 0
IsPlainText text = (0 < length text) × ArePlain text

compressed_plain : (segments : List ℕ) (run : ℕ × ℕ) → 0 < length segments → AreSegments segments
    → IsPlainText (net_text.compressed_text segments run)
compressed_plain segments run some h =
    let front = net_text.groups_text (take run.0 segments) in
    let behind = net_text.groups_text (drop (run.0 + run.1) segments) in
    cond_both _ _ _ IsPlainText
    (λ _. (
      joined_some front (58 ∷ 58 ∷ []) behind (omega arith),
      joined front (58 ∷ 58 ∷ []) behind
          (groups_plain (take run.0 segments) (AreSegments-take run.0 segments h))
          (refl, (refl, tt))
          (groups_plain (drop (run.0 + run.1) segments)
          (AreSegments-drop (run.0 + run.1) segments h)),
    ))
    (λ _. (groups_some segments some, groups_plain segments h))

hex_groups_plain : (segments : List ℕ) → 0 < length segments → AreSegments segments
    → IsPlainText (net_text.hex_groups_text segments)
unfolding net_text.hex_groups_text
hex_groups_plain segments some h =
    compressed_plain segments (net_text.longest_zero_run segments) some h

ipv6_plain : (segments : List ℕ) → 0 < length segments → AreSegments segments
    → IsPlainText (net_text.ipv6_text segments)
unfolding net_text.ipv6_text
ipv6_plain segments some h =
    let octets = net.octets_of (drop 6 segments) in
    let plain = ArePlain-ipv4 octets
    (octet_at octets (octets_of_segments (drop 6 segments) (AreSegments-drop 6 segments h))) in
    let mapped = codes "::ffff:" ++ net_text.ipv4_text octets in
    cond_both (bytes_eq (take 6 segments) (0 ∷ 0 ∷ 0 ∷ 0 ∷ 0 ∷ 0xffff ∷ [])) mapped
    (net_text.hex_groups_text segments) IsPlainText
    (λ _. (omega arith, (refl, (refl, (refl, (refl, (refl, (refl, (refl, plain)))))))))
    (λ _. hex_groups_plain segments some h)

segments_some : (octets : List ℕ) → 1 < length octets → 0 < length (net.segments_of octets)
segments_some [] some = absurd (omega arith)
segments_some (a ∷ []) some = absurd (omega arith)
segments_some (a ∷ b ∷ octets) some = omega arith

pub ipv6_token : (octets : List ℕ) → length octets ≡ 16 → AreOctets octets
    → IsOwnToken (ipv6_text octets)
ipv6_token octets sixteen h =
    let plain = ipv6_plain (net.segments_of octets) (segments_some octets (omega arith))
    (AreSegments-segments_of octets h) in
    plain_again (ipv6_text octets) plain.0 plain.1
