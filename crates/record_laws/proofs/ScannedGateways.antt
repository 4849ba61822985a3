-- What is scanned as an address or as a name is one.
use Rattle.std.proofs.Common.{◌≡◌, inl, inr, ℕ, zero, suc, ◌+◌, ◌-◌, ◌^◌, ◌<◌, ◌≤◌, Bool, true, false, cond, List, [], ◌∷◌, ◌++◌, length, replicate, codes, Some, None, refl, sym, subst, length-append, arith}
use Rattle.std.proofs.lemmas.List.{length-replicate}
use Rattle.std.proofs.lemmas.Int.Digits.{digits_value-lt}
use Rattle.std.specs.List.{flat_map, AllByRecursion}
use Rattle.std.specs.Str.Parse.{digits_value}
use Rattle.std.specs.Net.Addr as net
use Rattle.std.specs.Net.Grammar.{IsDotted, IsGroup, IsGroupsAfter, IsColonHex}
use Rattle.name_spec.specs.Names.{AreLabels}
use Rattle.name_spec.specs.AddressLaws.{AreOctets}
use Rattle.name_spec.specs.Addresses.{ipv4_of, ipv6_of}
use Rattle.name_spec.proofs.AddressTexts.{ipv4_spelled, ipv6_spelled}
use Rattle.text_spec.specs.declared.lexeme.Symbol.{Symbol}
use Rattle.text_spec.specs.Scanning.{octets_of}
use Rattle.text_spec.specs.NameTexts.{is_bare_octet, is_lone, onto_first, dotted_parts, without_final_dot, are_labels, if_labels, name_of}
use Rattle.text_spec.proofs.EncodingTexts.{AreOctets-append}
use Rattle.text_spec.proofs.NameTexts.{AreLabels-are_labels}
use Rattle.record_spec.specs.Ipseckeys.{IsAddress}
use Rattle.text_spec.proofs.OctetParts.{AreOctets-split}

-- ---- IPv4

dotted_octets : (text octets : List ℕ) → IsDotted text octets → IsAddress 4 octets
dotted_octets text octets dotted =
    subst (IsAddress 4) (sym dotted.value)
    (refl, (dotted.fit.0, (dotted.fit.1, (dotted.fit.2, (dotted.fit.3, tt)))))

pub ipv4_octets : (text octets : List ℕ) → ipv4_of text ≡ Some octets → IsAddress 4 octets
ipv4_octets text octets is = dotted_octets text octets (ipv4_spelled text octets is)

-- ---- IPv6

-- each number is below 2^16
abbrev AreSegments : List ℕ → Type 0
AreSegments segments = AllByRecursion (λ s. s < 65536) segments

AreSegments-append : (front behind : List ℕ) → AreSegments front → AreSegments behind
    → AreSegments (front ++ behind)
AreSegments-append [] behind f b = b
AreSegments-append (s ∷ front) behind f b = (f.0, AreSegments-append front behind f.1 b)

AreSegments-replicate : (n : ℕ) → AreSegments (replicate n 0)
AreSegments-replicate zero = tt
AreSegments-replicate (suc n) = (omega arith, AreSegments-replicate n)

AreSegments-segments_of : (octets : List ℕ) → AreOctets octets
    → AreSegments (net.segments_of octets)
AreSegments-segments_of [] are = tt
AreSegments-segments_of (a ∷ []) are = tt
AreSegments-segments_of (a ∷ b ∷ octets) are =
    let high = are.0 in
    let low = are.1.0 in
    (omega arith, AreSegments-segments_of octets are.1.1)

few_digits : (n : ℕ) → n ≤ 4 → 16 ^ n ≤ 65536
few_digits zero few = omega arith
few_digits (suc zero) few = omega arith
few_digits (suc (suc zero)) few = omega arith
few_digits (suc (suc (suc zero))) few = omega arith
few_digits (suc (suc (suc (suc zero)))) few = omega arith
few_digits (suc (suc (suc (suc (suc n))))) few = absurd (omega arith)

group_fits : (text : List ℕ) (segment : ℕ) → IsGroup text segment → segment < 65536
group_fits text segment is =
    let below : digits_value 16 text < 16 ^ length text = digits_value-lt 16 text is.0.0.1 in
    let few = few_digits (length text) is.1 in
    let same = is.0.1 in
    omega arith

groups_fit : (ipv4 : Bool) (lead text segments : List ℕ) → IsGroupsAfter ipv4 lead text segments
    → AreSegments segments
groups_fit ipv4 lead text [] is = tt
groups_fit ipv4 lead text (s ∷ segments) is = elim is [
  | inl grouped ↦
      (group_fits grouped.0 s grouped.3, groups_fit ipv4 (codes ":") grouped.1 segments grouped.4)
  | inr dotted ↦ subst AreSegments (sym dotted.5)
      (AreSegments-segments_of dotted.1 (dotted_octets dotted.0 dotted.1 dotted.4).1)
]

octets_of_segments : (segments : List ℕ) → AreSegments segments → AreOctets (net.octets_of segments)
octets_of_segments [] are = tt
octets_of_segments (s ∷ segments) are =
    let fits = are.0 in
    (omega arith, (omega arith, octets_of_segments segments are.1))

length-octets_of : (segments : List ℕ)
    → length (net.octets_of segments) ≡ length segments + length segments
length-octets_of [] = refl
length-octets_of (s ∷ segments) = omega (arith, length-octets_of segments)

-- eight segments
abbrev AreEight : List ℕ → Type 0
AreEight segments = (length segments ≡ 8) × AreSegments segments

eight : (text segments : List ℕ) → IsColonHex text segments → AreEight segments
eight text segments is = elim is [
  | inl whole ↦ (whole.1, groups_fit true [] text segments whole.0)
  | inr elided ↦
      let zeros = replicate (8 - length elided.head - length elided.tail) 0 in
      let room = elided.room in
      subst AreEight (sym elided.value) (
        omega (
          arith,
          length-append (elided.head ++ zeros) elided.tail,
          length-append elided.head zeros,
          length-replicate {A = ℕ} (8 - length elided.head - length elided.tail) 0,
        ),
        AreSegments-append (elided.head ++ zeros) elided.tail
            (AreSegments-append elided.head zeros
            (groups_fit false [] elided.head_text elided.head elided.head_groups)
            (AreSegments-replicate (8 - length elided.head - length elided.tail)))
            (groups_fit true [] elided.tail_text elided.tail elided.tail_groups),
      )
]

pub ipv6_octets : (text octets : List ℕ) → ipv6_of text ≡ Some octets → IsAddress 16 octets
ipv6_octets text octets is =
    let spelled = ipv6_spelled text octets is in
    let segments = eight text spelled.0 spelled.1 in
    let count = segments.0 in
    subst (IsAddress 16) spelled.2
    (omega (arith, length-octets_of spelled.0), octets_of_segments spelled.0 segments.1)

-- ---- names

abbrev joined : List (List ℕ) → List ℕ
joined labels = flat_map (λ label. label) labels

joined-onto_first : (octet : ℕ) (parts : List (List ℕ)) → octet < 256 → AreOctets (joined parts)
    → AreOctets (joined (onto_first octet parts))
joined-onto_first octet [] fits are = (fits, tt)
joined-onto_first octet (part ∷ parts) fits are = (fits, are)

parts_on : (test : Bool) (octet : ℕ) (parts : List (List ℕ)) → octet < 256
    → AreOctets (joined parts)
    → AreOctets (joined (cond test ([] ∷ parts) (onto_first octet parts)))
parts_on true octet parts fits are = are
parts_on false octet parts fits are = joined-onto_first octet parts fits are

parts_octets : (token : List Symbol) → AreOctets (octets_of token)
    → AreOctets (joined (dotted_parts token))
parts_octets [] are = tt
parts_octets (symbol ∷ symbols) are =
    parts_on (is_bare_octet 46 symbol) symbol.octet (dotted_parts symbols) are.0
    (parts_octets symbols are.1)

final_octets : (parts : List (List ℕ)) → AreOctets (joined parts)
    → AreOctets (joined (without_final_dot parts))
final_octets [] are = are
final_octets (part ∷ []) are = are
final_octets (part ∷ [] ∷ []) are = are
final_octets (part ∷ [] ∷ next ∷ parts) are =
    let both = AreOctets-split part (joined ([] ∷ next ∷ parts)) are in
    AreOctets-append part (joined (without_final_dot ([] ∷ next ∷ parts))) both.0
    (final_octets ([] ∷ next ∷ parts) both.1)
final_octets (part ∷ (c ∷ next) ∷ parts) are =
    let both = AreOctets-split part (joined ((c ∷ next) ∷ parts)) are in
    AreOctets-append part (joined (without_final_dot ((c ∷ next) ∷ parts))) both.0
    (final_octets ((c ∷ next) ∷ parts) both.1)

-- labels that a name may have, of octets
abbrev pub AreNameLabels : List (List ℕ) → Type 0
AreNameLabels labels = AreLabels 0 labels × AreOctets (joined labels)

labels_of : (parts labels : List (List ℕ)) → AreOctets (joined parts)
    → if_labels parts ≡ Some labels → AreNameLabels labels
labels_of parts labels are is = tested (are_labels 0 parts) refl is
  where
    tested : (test : Bool) → are_labels 0 parts ≡ test → cond test (Some parts) None ≡ Some labels
        → AreNameLabels labels
    tested true holds is = let same : parts ≡ labels = cc
        in subst AreNameLabels same (AreLabels-are_labels 0 parts holds, are)
    tested false holds is = absurd cc

pub name_labels : (token : List Symbol) (labels : List (List ℕ)) → AreOctets (octets_of token)
    → name_of token ≡ Some labels → AreNameLabels labels
name_labels token labels are is = tested (is_lone 46 token) (is_lone 64 token) is
  where
    parts : List (List ℕ)
    parts = without_final_dot (dotted_parts token)

    tested : (root at : Bool) → cond root (Some []) (cond at None (if_labels parts)) ≡ Some labels
        → AreNameLabels labels
    tested true at is = let same : [] ≡ labels = cc in subst AreNameLabels same (tt, tt)
    tested false true is = absurd cc
    tested false false is =
        labels_of parts labels (final_octets (dotted_parts token) (parts_octets token are)) is
