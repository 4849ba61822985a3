-- Which texts are read as addresses, and that printed addresses are read back. Offered to the
-- crates above, whose calls of std answer by its grammar.
use Rattle.std.proofs.Common.{◌≡◌, ℕ, suc, zero, ◌+◌, ◌*◌, ◌<◌, ◌^◌, List, [], ◌∷◌, Some, None, length, get_or, refl, sym, ap, ◌∙◌, subst, arith, append-nil, lit≤, cond, ne_eqb, ◌/◌, ◌%◌}
use Rattle.std.proofs.lemmas.Option.{none-some}
use Rattle.std.specs.Prelude.{option_map}
use Rattle.std.specs.Net.Addr.{octets_of, segments_of}
use Rattle.std.specs.Net.Grammar.{IsDotted, IsColonHex}
use Rattle.std.specs.Net.Reader.{Read, read_ipv4, read_ipv6, whole_value}
use Rattle.std.proofs.NetLemmas.Ipv4.{read_ipv4_complete, read_ipv4_sound}
use Rattle.std.proofs.NetLemmas.Ipv6.{read_ipv6_complete, read_ipv6_sound, EndsGroups-nil}
use Rattle.std.proofs.NetLemmas.Texts.{IsDotted-ipv4_text, IsColonHex-ipv6_text}
use Rattle.name_spec.specs.Addresses.{ipv4_of, ipv6_of, ipv4_text, ipv6_text}
use Rattle.name_spec.specs.AddressLaws.{AreOctets}

-- nothing is read wholly where something is left
left_over : (y : List ℕ) (c : ℕ) (rest : List ℕ) → None ≡ whole_value (Some (y, c ∷ rest))
left_over y c rest =
    sym (ap (λ b. cond b (Some y) None) (ne_eqb (length (c ∷ rest)) 0 (omega arith)))

-- what is read wholly is read, and nothing is left
whole_read : (read : Read (List ℕ)) (x : List ℕ) → whole_value read ≡ Some x → read ≡ Some (x, [])
whole_read None x e = cc
whole_read (Some (y, [])) x e = cc
whole_read (Some (y, c ∷ rest)) x e = absurd (none-some x (left_over y c rest ∙ e))

-- ---- IPv4

pub ipv4_spelled : (text octets : List ℕ) → ipv4_of text ≡ Some octets → IsDotted text octets
ipv4_spelled text octets e =
    let (front, split, dotted) =
    read_ipv4_sound text octets [] (whole_read (read_ipv4 text) octets e) in
    subst (λ t. IsDotted t octets) (sym (split ∙ append-nil front)) dotted

pub ipv4_read : (text octets : List ℕ) → IsDotted text octets → ipv4_of text ≡ Some octets
ipv4_read text octets h =
    ap (λ t. whole_value (read_ipv4 t)) (sym (append-nil text))
    ∙ ap whole_value (read_ipv4_complete text octets [] h (lit≤ tt))

octet_fits : (octets : List ℕ) → AreOctets octets → (k : ℕ) → get_or octets k 0 < 2 ^ 8
octet_fits [] h k = omega arith
octet_fits (c ∷ octets) h zero = omega (arith, h.0)
octet_fits (c ∷ octets) h (suc k) = octet_fits octets h.1 k

pub ipv4_again : (octets : List ℕ) → length octets ≡ 4 → AreOctets octets
    → ipv4_of (ipv4_text octets) ≡ Some octets
ipv4_again octets four fits =
    ipv4_read (ipv4_text octets) octets (IsDotted-ipv4_text octets four (octet_fits octets fits))

-- ---- IPv6

segments_spelled : (read : Read (List ℕ)) (octets : List ℕ)
    → option_map octets_of (whole_value read) ≡ Some octets
    → (segments : List ℕ) × (read ≡ Some (segments, [])) × (octets_of segments ≡ octets)
segments_spelled None octets e = absurd cc
segments_spelled (Some (y, [])) octets e = (y, refl, cc)
segments_spelled (Some (y, c ∷ rest)) octets e =
    absurd (none-some octets (ap (option_map octets_of) (left_over y c rest) ∙ e))

pub ipv6_spelled : (text octets : List ℕ) → ipv6_of text ≡ Some octets → (segments : List ℕ)
    × IsColonHex text segments × (octets_of segments ≡ octets)
ipv6_spelled text octets e =
    let (segments, read, same) = segments_spelled (read_ipv6 text) octets e in
    let (front, split, groups) = read_ipv6_sound text segments [] read in
    (segments, subst (λ t. IsColonHex t segments) (sym (split ∙ append-nil front)) groups, same)

pub ipv6_read : (text octets segments : List ℕ) → IsColonHex text segments
    → octets_of segments ≡ octets → ipv6_of text ≡ Some octets
ipv6_read text octets segments h same =
    ap (λ t. option_map octets_of (whole_value (read_ipv6 t))) (sym (append-nil text))
    ∙ ap (λ (r : Read (List ℕ)). option_map octets_of (whole_value r))
    (read_ipv6_complete text segments [] h EndsGroups-nil)
    ∙ ap Some same

-- each two octets are a number below 2^16
segments_count : (n : ℕ) (octets : List ℕ) → length octets ≡ n + n → length (segments_of octets) ≡ n
segments_count n [] h = omega arith
segments_count zero (a ∷ octets) h = absurd (omega arith)
segments_count (suc n) (a ∷ []) h = absurd (omega arith)
segments_count (suc n) (a ∷ b ∷ octets) h = omega (arith, segments_count n octets (omega arith))

segments_fit : (octets : List ℕ) → AreOctets octets → (k : ℕ)
    → get_or (segments_of octets) k 0 < 2 ^ 16
segments_fit [] h k = omega arith
segments_fit (a ∷ []) h k = omega arith
segments_fit (a ∷ b ∷ octets) h zero = omega (arith, h.0, h.1.0)
segments_fit (a ∷ b ∷ octets) h (suc k) = segments_fit octets h.1.1 k

octets_back : (n : ℕ) (octets : List ℕ) → length octets ≡ n + n → AreOctets octets
    → octets_of (segments_of octets) ≡ octets
octets_back n [] even h = refl
octets_back zero (a ∷ octets) even h = absurd (omega arith)
octets_back (suc n) (a ∷ []) even h = absurd (omega arith)
octets_back (suc n) (a ∷ b ∷ octets) even h =
    let high : (a * 256 + b) / 256 ≡ a = omega (arith, h.0, h.1.0) in
    let low : (a * 256 + b) % 256 ≡ b = omega (arith, h.0, h.1.0) in
    rw (high, low, octets_back n octets (omega arith) h.1.1) refl

pub ipv6_again : (octets : List ℕ) → length octets ≡ 16 → AreOctets octets
    → ipv6_of (ipv6_text octets) ≡ Some octets
ipv6_again octets sixteen fits =
    ipv6_read (ipv6_text octets) octets (segments_of octets)
    (IsColonHex-ipv6_text (segments_of octets) (segments_count 8 octets sixteen)
    (segments_fit octets fits)) (octets_back 8 octets sixteen fits)
