-- How long the texts of addresses are. Offered to the crates above: `ipv4-length` and
-- `ipv6-length`.
use Rattle.std.proofs.Common.{◌≡◌, ℕ, zero, suc, ◌+◌, ◌*◌, ◌/◌, ◌%◌, ◌<◌, ◌≤◌, true, false, cond, List, [], ◌∷◌, ◌++◌, length, take, drop, codes, arith, length-append, length-drop, length-take}
use Rattle.std.specs.Prelude.{slice_index, bytes_eq, nat_lt}
use Rattle.std.specs.Char.{digit_char}
use Rattle.std.specs.List.{flat_map, AllByRecursion}
use Rattle.std.specs.Net.Addr.{octets_of, segments_of}
use Rattle.std.specs.Net.Text as net
use Rattle.name_spec.specs.Addresses.{ipv4_text, ipv6_text}
use Rattle.name_spec.specs.AddressLaws.{AreOctets}
use Rattle.svcb_spec.proofs.ItemLaws.{small_octets}
use Rattle.svcb_laws.proofs.ReadOctets.{each_octet}
use Rattle.svcb_laws.proofs.PieceLengths.{octet-length}

-- ---- four octets

dotted-length : (a b c d : ℕ) → a < 256 → b < 256 → c < 256 → d < 256
    → length (net.dotted_text a b c d) ≤ 15
dotted-length a b c d small_a small_b small_c small_d =
    let len_a = octet-length a small_a in
    let len_b = octet-length b small_b in
    let len_c = octet-length c small_c in
    let len_d = octet-length d small_d in
    grind (arith, length-append)

pub ipv4-length : (octets : List ℕ) → AreOctets octets → length (ipv4_text octets) ≤ 15
ipv4-length octets are =
    let small = small_octets octets (each_octet octets are) in
    dotted-length (slice_index octets 0) (slice_index octets 1) (slice_index octets 2)
    (slice_index octets 3) (small 0) (small 1) (small 2) (small 3)

-- ---- segments

abbrev AreSegments : List ℕ → Type 0
AreSegments = AllByRecursion (λ segment. segment < 65536)

segments-small : (octets : List ℕ) → AreOctets octets → AreSegments (segments_of octets)
segments-small [] are = tt
segments-small (a ∷ []) are = tt
segments-small (a ∷ b ∷ octets) are =
    let high : a < 256 = are.0 in
    let low : b < 256 = are.1.0 in
    (omega arith, segments-small octets are.1.1)

segments-drop : (n : ℕ) (segments : List ℕ) → AreSegments segments → AreSegments (drop n segments)
segments-drop zero segments are = are
segments-drop (suc n) [] are = tt
segments-drop (suc n) (segment ∷ segments) are = segments-drop n segments are.1

segments-octets : (segments : List ℕ) → AreSegments segments → AreOctets (octets_of segments)
segments-octets [] are = tt
segments-octets (segment ∷ segments) are =
    let small : segment < 65536 = are.0 in
    (omega arith, (omega arith, segments-octets segments are.1))

segments-length : (octets : List ℕ) → 2 * length (segments_of octets) ≤ length octets
segments-length [] = omega arith
segments-length (a ∷ []) = omega arith
segments-length (a ∷ b ∷ octets) = let others = segments-length octets in omega arith

-- ---- groups of hexadecimal digits

hex-length : (n : ℕ) → length (net.hex n) ≤ 4
unfolding net.hex
hex-length n = omega (
  arith,
  length-drop (net.leading_zero_digits n)
      (digit_char (n / 0x1000) ∷ digit_char (n / 0x100 % 16) ∷ digit_char (n / 0x10 % 16)
      ∷ digit_char (n % 16) ∷ []),
)

behind-length : (segments : List ℕ)
    → length (flat_map (λ t. codes ":" ++ net.hex t) segments) ≤ 5 * length segments
behind-length [] = omega arith
behind-length (segment ∷ segments) =
    let first = hex-length segment in
    let others = behind-length segments in
    omega (
      arith,
      first,
      others,
      length-append (net.hex segment)
          (flat_map (λ t. codes ":" ++ net.hex t) segments),
    )

groups-length : (segments : List ℕ) → length (net.groups_text segments) ≤ 5 * length segments
groups-length [] = omega arith
groups-length (segment ∷ segments) =
    let first = hex-length segment in
    let others = behind-length segments in
    omega (
      arith,
      first,
      others,
      length-append (net.hex segment)
          (flat_map (λ t. codes ":" ++ net.hex t) segments),
    )

compressed-length : (segments : List ℕ) (run : ℕ × ℕ)
    → length (net.compressed_text segments run) ≤ 10 * length segments + 2
compressed-length segments run =
    let before = take run.0 segments in
    let behind = drop (run.0 + run.1) segments in
    let len_before = groups-length before in
    let len_behind = groups-length behind in
    let few_before = length-take run.0 segments in
    let few_behind = length-drop (run.0 + run.1) segments in
    let whole = groups-length segments in
    elim (nat_lt 1 run.1) as
    (λ long. length
    (cond long (net.groups_text before ++ codes "::" ++ net.groups_text behind)
    (net.groups_text segments)) ≤ 10 * length segments + 2) [
      | true ↦ grind (arith, length-append)
      | false ↦ omega arith
    ]

colon_hex-length : (segments : List ℕ)
    → length (net.hex_groups_text segments) ≤ 10 * length segments + 2
unfolding net.hex_groups_text
colon_hex-length segments = compressed-length segments (net.longest_zero_run segments)

pub ipv6-length : (octets : List ℕ) → length octets ≡ 16 → AreOctets octets
    → length (ipv6_text octets) ≤ 82
unfolding net.ipv6_text
ipv6-length octets sixteen are =
    let segments = segments_of octets in
    let few = segments-length octets in
    let dotted = net.ipv4_text (octets_of (drop 6 segments)) in
    let mapped = ipv4-length (octets_of (drop 6 segments))
    (segments-octets (drop 6 segments) (segments-drop 6 segments (segments-small octets are)))
    in
    let plain = colon_hex-length segments in
    elim (bytes_eq (take 6 segments) (0 ∷ 0 ∷ 0 ∷ 0 ∷ 0 ∷ 0xffff ∷ []))
    as (λ is. length (cond is (codes "::ffff:" ++ dotted) (net.hex_groups_text segments)) ≤ 82) [
      | true ↦ omega arith
      | false ↦ omega arith
    ]
