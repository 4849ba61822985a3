-- Octets are read back from their base16 and base64 text. Offered to the crates above:
-- `base64_exact`, `base64_spelled`, `base64_again`, `AreOctets-base64_of`, `base16_again`,
-- `AreOctets-base16_of`, and `octet_at` with what adds up to `AreOctets`.
use Rattle.std.proofs.Common.{◌≡◌, ℕ, zero, suc, ◌+◌, ◌*◌, ◌/◌, ◌<◌, inl, inr, List, [], ◌∷◌, ◌++◌, length, take, drop, get_or, Option, Some, None, Result, Ok, Err, refl, sym, ap, subst, ◌∙◌, arith}
use Rattle.std.specs.Prelude.{◌↔◌}
use Rattle.std.specs.Result.{result_ok}
use Rattle.base64.specs.declared.decode.DecodeError.{DecodeError}
use Rattle.base64.specs.Decode.{IsDecodeTable, or_else, symbol_error, group_error, group_bytes, groups_error, groups_bytes, groups_before_last, decode_group, no_leftover, push_leftover, scan, scan_last, leftover_bytes, scan_bytes, lone_error, suffix_error, suffix_bytes, decode_error, decode_outcome, decoded_bytes}
use Rattle.base64.specs.GeneralPurpose.{IsStrict, decode_of}
use Rattle.base64.specs.Engines.{standard}
use Rattle.base64.proofs.Tables.{IsDecodeTable_from, are_tables_inverse}
use Rattle.base64.proofs.Decoding.{IsLeftover, IsLeftover_next, scan-nil, scan-cons_ok, scan-cons_err}
use Rattle.base64.proofs.EngineFacts.{decode_of-encode_of, decode_of_strict}
use Rattle.hex.specs.Hex as hex
use Rattle.hex.proofs.HexLemmas.{decode_of-encode_upper, decode_of-ok}
use Rattle.name_spec.specs.AddressLaws.{AreOctets}
use Rattle.text_spec.specs.Encodings.{base16_of, base16_text, base64_of, base64_text}

-- ---- octets, by place and one by one

pub octet_at : (octets : List ℕ) → AreOctets octets → (i : ℕ) → get_or octets i 0 < 256
octet_at [] h i = omega arith
octet_at (c ∷ octets) h zero = h.0
octet_at (c ∷ octets) h (suc i) = octet_at octets h.1 i

pub AreOctets_from : (octets : List ℕ) → ((i : ℕ) → get_or octets i 0 < 256) → AreOctets octets
AreOctets_from [] h = tt
AreOctets_from (c ∷ octets) h = (h 0, AreOctets_from octets (λ i. h (suc i)))

pub AreOctets-append : (front behind : List ℕ) → AreOctets front → AreOctets behind
    → AreOctets (front ++ behind)
AreOctets-append [] behind f b = b
AreOctets-append (c ∷ front) behind f b = (f.0, AreOctets-append front behind f.1 b)

pub AreOctets-take : (n : ℕ) (octets : List ℕ) → AreOctets octets → AreOctets (take n octets)
AreOctets-take zero octets h = tt
AreOctets-take (suc n) [] h = tt
AreOctets-take (suc n) (c ∷ octets) h = (h.0, AreOctets-take n octets h.1)

pub AreOctets-drop : (n : ℕ) (octets : List ℕ) → AreOctets octets → AreOctets (drop n octets)
AreOctets-drop zero octets h = h
AreOctets-drop (suc n) [] h = tt
AreOctets-drop (suc n) (c ∷ octets) h = AreOctets-drop n octets h.1

-- what is read
read_ok : {E : Type 0} (read : Result (List ℕ) E) (octets : List ℕ) → result_ok read ≡ Some octets
    → read ≡ Ok octets
read_ok (Ok x) octets e = cc
read_ok (Err fault) octets e = absurd cc

-- ---- what base64 decodes to are octets

group_octets : (a b c d : ℕ) → a < 64 → b < 64 → c < 64 → d < 64 → AreOctets (decode_group a b c d)
group_octets a b c d la lb lc ld = (omega arith, (omega arith, (omega arith, tt)))

or_else_none : (x y : Option DecodeError) → or_else x y ≡ None → (x ≡ None) × (y ≡ None)
or_else_none None y h = (refl, h)
or_else_none (Some e) y h = absurd cc

-- a symbol's value, where it is no error
symbol_value : (table text : List ℕ) (i : ℕ) → IsDecodeTable table → AreOctets text
    → symbol_error table text i ≡ None
    → get_or table (get_or text i 0) 0 < 64
symbol_value table text i decodes octets none =
    elim (decodes (get_or text i 0) (octet_at text octets i)) [
      | inl bad ↦ absurd (cc (rw bad at none))
      | inr small ↦ small
    ]

whole_group : (table text : List ℕ) (i : ℕ) → IsDecodeTable table → AreOctets text
    → group_error table text i ≡ None
    → AreOctets (group_bytes table text i)
whole_group table text i decodes octets none =
    let first = or_else_none (symbol_error table text i)
    (or_else (symbol_error table text (i + 1))
    (or_else (symbol_error table text (i + 2)) (symbol_error table text (i + 3)))) none in
    let second = or_else_none (symbol_error table text (i + 1))
    (or_else (symbol_error table text (i + 2)) (symbol_error table text (i + 3))) first.1 in
    let third = or_else_none (symbol_error table text (i + 2))
    (symbol_error table text (i + 3)) second.1 in
    group_octets (get_or table (get_or text i 0) 0) (get_or table (get_or text (i + 1) 0) 0)
    (get_or table (get_or text (i + 2) 0) 0) (get_or table (get_or text (i + 3) 0) 0)
    (symbol_value table text i decodes octets first.0)
    (symbol_value table text (i + 1) decodes octets second.0)
    (symbol_value table text (i + 2) decodes octets third.0)
    (symbol_value table text (i + 3) decodes octets third.1)

whole_groups : (table text : List ℕ) (count : ℕ) → IsDecodeTable table → AreOctets text
    → groups_error table text count ≡ None
    → AreOctets (groups_bytes table text count)
unfolding groups_error groups_bytes
whole_groups table text zero decodes octets none = tt
whole_groups table text (suc count) decodes octets none =
    let both = or_else_none (groups_error table text count) (group_error table text (4 * count))
    none in
    AreOctets-append (groups_bytes table text count) (group_bytes table text (4 * count))
    (whole_groups table text count decodes octets both.0)
    (whole_group table text (4 * count) decodes octets both.1)

-- what the scan of the last group keeps
kept_by_step : (table : List ℕ) (pad at : ℕ) (st : _) (i c : ℕ) (text : List ℕ)
    → IsDecodeTable table → IsLeftover st i → c < 256
    → ((next : _) → IsLeftover next (i + 1) → (end : _)
    → scan table pad at next (i + 1) text ≡ Ok end → (j : ℕ) × IsLeftover end j)
    → (step : Result _ DecodeError) → push_leftover table pad at st i c ≡ step
    → (end : _) → scan table pad at st i (c ∷ text) ≡ Ok end → (j : ℕ) × IsLeftover end j
kept_by_step table pad at st i c text decodes held octet on (Ok next) is end e =
    on next (IsLeftover_next table pad at st i c next decodes held octet is) end
    (sym (scan-cons_ok table pad at st i c text next is) ∙ e)
kept_by_step table pad at st i c text decodes held octet on (Err fault) is end e =
    let refused = sym (scan-cons_err table pad at st i c text fault is) ∙ e in
    absurd cc

kept_by_scan : (table : List ℕ) (pad at : ℕ) (st : _) (i : ℕ) (text : List ℕ) → IsDecodeTable table
    → IsLeftover st i → AreOctets text
    → (end : _) → scan table pad at st i text ≡ Ok end → (j : ℕ) × IsLeftover end j
kept_by_scan table pad at st i [] decodes held octets end e =
    let same : st ≡ end = cc (scan-nil table pad at st i) in
    (i, subst (λ s. IsLeftover s i) same held)
kept_by_scan table pad at st i (c ∷ text) decodes held octets end e =
    kept_by_step table pad at st i c text decodes held octets.0
    (λ next kept. kept_by_scan table pad at next (i + 1) text decodes kept octets.1)
    (push_leftover table pad at st i c) refl end e

leftover_octets : (st : _) (i : ℕ) → IsLeftover st i → AreOctets (leftover_bytes st)
leftover_octets st i held =
    AreOctets-take (st.morsels_count * 6 / 8)
    (decode_group (get_or st.morsels 0 0) (get_or st.morsels 1 0) (get_or st.morsels 2 0)
    (get_or st.morsels 3 0))
    (group_octets (get_or st.morsels 0 0) (get_or st.morsels 1 0) (get_or st.morsels 2 0)
    (get_or st.morsels 3 0) (held.3 0) (held.3 1) (held.3 2) (held.3 3))

zero_morsels : (k : ℕ) → get_or (0 ∷ 0 ∷ 0 ∷ 0 ∷ []) k 0 < 64
zero_morsels zero = omega arith
zero_morsels (suc zero) = omega arith
zero_morsels (suc (suc zero)) = omega arith
zero_morsels (suc (suc (suc zero))) = omega arith
zero_morsels (suc (suc (suc (suc k)))) = omega arith

-- the octets of the last group
scanned_octets : (table : List ℕ) (pad at : ℕ) (text : List ℕ) → IsDecodeTable table
    → AreOctets text
    → (answer : Result _ DecodeError) → scan_last table pad at text ≡ answer
    → AreOctets (scan_bytes answer)
scanned_octets table pad at text decodes octets (Ok st) is =
    let kept = kept_by_scan table pad at no_leftover 0 (drop at text) decodes
    (omega arith, omega arith, omega arith, zero_morsels) (AreOctets-drop at text octets) st is
    in
    leftover_octets st kept.0 kept.1
scanned_octets table pad at text decodes octets (Err fault) is = tt

pub decoded_octets : (table : List ℕ) (pad : ℕ) (text : List ℕ) → IsDecodeTable table
    → AreOctets text
    → groups_error table text (groups_before_last (length text)) ≡ None
    → AreOctets (decoded_bytes table pad text)
decoded_octets table pad text decodes octets none =
    let count = groups_before_last (length text) in
    AreOctets-append (groups_bytes table text count) (suffix_bytes table pad (4 * count) text)
    (whole_groups table text count decodes octets none)
    (scanned_octets table pad (4 * count) text decodes octets
    (scan_last table pad (4 * count) text) refl)

-- what decoded without an error
outcome_ok : (error : Option DecodeError) (bytes octets : List ℕ)
    → decode_outcome error bytes ≡ Ok octets → (error ≡ None) × (bytes ≡ octets)
outcome_ok None bytes octets e = (refl, cc)
outcome_ok (Some fault) bytes octets e = absurd cc

standard_decodes : IsDecodeTable standard.decode_table
standard_decodes =
    IsDecodeTable_from standard.encode_table standard.decode_table
    (are_tables_inverse standard.encode_table standard.decode_table standard.padding.value
    standard.tables)

standard_strict : IsStrict standard
standard_strict = (refl, refl)

-- what is read from base64 are octets
pub AreOctets-base64_of : (text octets : List ℕ) → AreOctets text → base64_of text ≡ Some octets
    → AreOctets octets
AreOctets-base64_of text octets bytes e =
    let table = standard.decode_table in
    let pad = standard.padding.value in
    let count = groups_before_last (length text) in
    let allow = standard.config.decode_allow_trailing_bits in
    let mode = standard.config.decode_padding_mode in
    let decoded = outcome_ok (decode_error table pad allow mode text)
    (decoded_bytes table pad text) octets (read_ok (decode_of standard text) octets e) in
    let rest = or_else_none (lone_error table pad text)
    (or_else (groups_error table text count)
    (suffix_error table pad allow mode (4 * count) text)) decoded.0 in
    let groups = or_else_none (groups_error table text count)
    (suffix_error table pad allow mode (4 * count) text) rest.1 in
    subst AreOctets decoded.1 (decoded_octets table pad text standard_decodes bytes groups.0)

-- ---- base64

-- a text that is read is the base64 text of what is read
pub base64_spelled : (text octets : List ℕ) → AreOctets text → base64_of text ≡ Some octets
    → text ≡ base64_text octets
base64_spelled text octets bytes e =
    decode_of_strict standard text octets standard_strict (octet_at text bytes)
    (read_ok (decode_of standard text) octets e)

-- octets are read back from their base64 text
pub base64_again : (octets : List ℕ) → AreOctets octets
    → base64_of (base64_text octets) ≡ Some octets
base64_again octets bytes =
    ap result_ok (decode_of-encode_of standard octets refl (octet_at octets bytes))

-- a text is read as exactly the octets whose base64 text it is
pub base64_exact : (text octets : List ℕ) → AreOctets text → (base64_of text ≡ Some octets)
    ↔ (AreOctets octets × (text ≡ base64_text octets))
base64_exact text octets bytes = (
  λ read. (AreOctets-base64_of text octets bytes read, base64_spelled text octets bytes read),
  λ h. ap base64_of h.1 ∙ base64_again octets h.0,
)

-- ---- base16

pub base16_again : (octets : List ℕ) → AreOctets octets
    → base16_of (base16_text octets) ≡ Some octets
base16_again octets bytes = ap result_ok (decode_of-encode_upper octets (octet_at octets bytes))

-- what is read from base16 are octets
pub AreOctets-base16_of : (text octets : List ℕ) → base16_of text ≡ Some octets → AreOctets octets
AreOctets-base16_of text octets e =
    AreOctets_from octets (decode_of-ok text octets (read_ok (hex.decode_of text) octets e)).3
