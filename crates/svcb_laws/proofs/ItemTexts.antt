-- Texts of items: octets that stand for themselves, without a comma. Such are the texts of numbers,
-- addresses and keys.
use Rattle.std.proofs.Common.{◌≡◌, ℕ, ◌^◌, ◌<◌, ◌≤◌, Bool, true, false, cond, not, ◌&&◌, List, [], ◌∷◌, ◌++◌, length, codes, Some, inl, inr, refl, sym, ap, subst, arith, length-append}
use Rattle.std.specs.Prelude.{◌==◌, nat_lt, unwrap_or}
use Rattle.std.specs.Char.{digit_value}
use Rattle.std.specs.Fmt.{decimal}
use Rattle.std.specs.List.{list_all, AllByRecursion}
use Rattle.std.specs.Net.Grammar.{IsDotted, IsGroupsAfter, IsColonHex}
use Rattle.std.specs.Net.Text.{dotted_text}
use Rattle.std.specs.Str.Parse.{AllDigits}
use Rattle.std.proofs.lemmas.Bool.{and_parts}
use Rattle.std.proofs.lemmas.Bool.Decides.{nat_tests}
use Rattle.std.proofs.lemmas.Fmt.{decimal_is_IsNumeral}
use Rattle.name_spec.specs.Addresses.{ipv4_text, ipv6_text}
use Rattle.name_spec.specs.AddressLaws.{AreOctets}
use Rattle.name_spec.proofs.AddressTexts.{ipv4_spelled, ipv4_again, ipv6_spelled, ipv6_again}
use Rattle.registry.specs.Keys.{parameter_keys}
use Rattle.registry.specs.Tables.{mnemonic_of}
use Rattle.text_spec.specs.Pieces.{is_bare}
use Rattle.text_spec.proofs.PlainTexts.{ArePlain}
use Rattle.svcb_spec.specs.ParamTexts.{is_key_octet}
use Rattle.svcb_spec.specs.PrintedValues.{key_name}

-- ---- octets of items

abbrev pub is_item_octet : ℕ → Bool
is_item_octet c = is_bare c && not (c == 44)

abbrev pub AreOfItem : List ℕ → Type 0
AreOfItem text = AllByRecursion (λ c. is_item_octet c ≡ true) text

-- a text of an item
abbrev pub IsItemText : List ℕ → Type 0
IsItemText text = (0 < length text) × AreOfItem text

pub ArePlain-item : (text : List ℕ) → AreOfItem text → ArePlain text
ArePlain-item [] are = tt
ArePlain-item (c ∷ text) are =
    ((and_parts (is_bare c) (not (c == 44)) are.0).0, ArePlain-item text are.1)

item-append : (front behind : List ℕ) → AreOfItem front → AreOfItem behind
    → AreOfItem (front ++ behind)
item-append [] behind f b = b
item-append (c ∷ front) behind f b = (f.0, item-append front behind f.1 b)

-- ---- numbers

item-digit : (c radix : ℕ) → radix ≤ 16 → digit_value c < radix → is_item_octet c ≡ true
item-digit c radix most below = grind (arith, nat_tests)

item-digits : (radix : ℕ) (text : List ℕ) → radix ≤ 16 → AllDigits radix text → AreOfItem text
item-digits radix [] most are = tt
item-digits radix (c ∷ text) most are =
    (item-digit c radix most are.0, item-digits radix text most are.1)

pub item-decimal : (n : ℕ) → n < 2 ^ 64 → IsItemText (decimal n)
item-decimal n small =
    let is = decimal_is_IsNumeral n small in
    (is.0.0, item-digits 10 (decimal n) (omega arith) is.0.1)

-- ---- addresses

dotted : (front behind : List ℕ) → IsItemText front → IsItemText behind
    → IsItemText ((front ++ 46 ∷ []) ++ behind)
dotted front behind f b = (
  omega (arith, f.0, length-append (front ++ 46 ∷ []) behind, length-append front (46 ∷ [])),
  item-append (front ++ 46 ∷ []) behind (item-append front (46 ∷ []) f.1 (refl, tt)) b.1,
)

item-dotted_text : (a b c d : ℕ) → (a < 256) × (b < 256) × (c < 256) × (d < 256)
    → IsItemText (dotted_text a b c d)
item-dotted_text a b c d fit =
    dotted (((((decimal a ++ 46 ∷ []) ++ decimal b) ++ 46 ∷ []) ++ decimal c)) (decimal d)
    (dotted ((decimal a ++ 46 ∷ []) ++ decimal b) (decimal c)
    (dotted (decimal a) (decimal b) (item-decimal a (omega (arith, fit.0)))
    (item-decimal b (omega (arith, fit.1))))
    (item-decimal c (omega (arith, fit.2))))
    (item-decimal d (omega (arith, fit.3)))

item-dotted : (text octets : List ℕ) → IsDotted text octets → IsItemText text
item-dotted text octets is =
    subst IsItemText (sym is.spelled) (item-dotted_text is.a is.b is.c is.d is.fit)

pub item-ipv4 : (octets : List ℕ) → length octets ≡ 4 → AreOctets octets
    → IsItemText (ipv4_text octets)
item-ipv4 octets four are =
    item-dotted (ipv4_text octets) octets
    (ipv4_spelled (ipv4_text octets) octets (ipv4_again octets four are))

item-groups : (ipv4 : Bool) (lead text segments : List ℕ) → AreOfItem lead
    → IsGroupsAfter ipv4 lead text segments → AreOfItem text
item-groups ipv4 lead text [] of_item is = subst AreOfItem (sym is) tt
item-groups ipv4 lead text (s ∷ segments) of_item (inl (group, rest, is, is_group, more)) =
    subst AreOfItem (sym is) (item-append (lead ++ group) rest
    (item-append lead group of_item (item-digits 16 group (omega arith) is_group.0.0.1))
    (item-groups ipv4 (codes ":") rest segments (refl, tt) more))
item-groups ipv4 lead text (s ∷ segments) of_item
    (inr (last, octets, allowed, is, is_dotted, value)) =
    subst AreOfItem (sym is) (item-append lead last of_item (item-dotted last octets is_dotted).1)

-- a group has a digit
some-groups : (ipv4 : Bool) (lead text segments : List ℕ) → 0 < length segments
    → IsGroupsAfter ipv4 lead text segments → 0 < length text
some-groups ipv4 lead text [] some is = absurd (omega arith)
some-groups ipv4 lead text (s ∷ segments) some (inl (group, rest, is, is_group, more)) =
    let digit = is_group.0.0.0 in
    omega (arith, ap length is, length-append (lead ++ group) rest, length-append lead group)
some-groups ipv4 lead text (s ∷ segments) some (inr (last, octets, allowed, is, is_dotted, value)) =
    let digit = (item-dotted last octets is_dotted).0 in
    omega (arith, ap length is, length-append lead last)

item-colon_hex : (text segments : List ℕ) → IsColonHex text segments → IsItemText text
item-colon_hex text segments (inl (groups, eight)) = (
  some-groups true [] text segments (omega arith) groups,
  item-groups true
      [] text segments tt groups,
)
item-colon_hex text segments (inr elided) = (
  omega (
    arith,
    ap length elided.spelled,
    length-append
        (elided.head_text ++ codes "::") elided.tail_text,
    length-append elided.head_text
        (codes "::"),
  ),
  subst AreOfItem (sym elided.spelled)
      (item-append (elided.head_text ++ codes "::") elided.tail_text
      (item-append elided.head_text (codes "::")
      (item-groups false [] elided.head_text elided.head tt elided.head_groups)
      (refl, (refl, tt)))
      (item-groups true [] elided.tail_text elided.tail tt elided.tail_groups)),
)

pub item-ipv6 : (octets : List ℕ) → length octets ≡ 16 → AreOctets octets
    → IsItemText (ipv6_text octets)
item-ipv6 octets sixteen are =
    let spelled = ipv6_spelled (ipv6_text octets) octets (ipv6_again octets sixteen are) in
    item-colon_hex (ipv6_text octets) spelled.0 spelled.1

-- ---- keys

abbrev is_key_text : List ℕ → Bool
is_key_text text = nat_lt 0 (length text) && list_all is_key_octet text

item-key_octet : (c : ℕ) → is_key_octet c ≡ true → is_item_octet c ≡ true
item-key_octet c of_key = grind (arith, nat_tests)

item-key_octets : (text : List ℕ) → list_all is_key_octet text ≡ true → AreOfItem text
item-key_octets [] are = tt
item-key_octets (c ∷ text) are =
    let both = and_parts (is_key_octet c) (list_all is_key_octet text) are in
    (item-key_octet c both.0, item-key_octets text both.1)

item-key_text : (text : List ℕ) → is_key_text text ≡ true → IsItemText text
item-key_text text is =
    let both = and_parts (nat_lt 0 (length text)) (list_all is_key_octet text) is in
    let some : nat_lt 0 (length text) ≡ true = both.0 in
    (grind (arith, nat_tests), item-key_octets text both.1)

item-unwrap : (rows : List (ℕ × List ℕ)) (key : ℕ)
    → list_all (λ row. is_key_text row.1) rows ≡ true → key < 2 ^ 64
    → IsItemText (unwrap_or (mnemonic_of rows key) (codes "key" ++ decimal key))
item-unwrap [] key are small =
    let digits = item-decimal key small in
    (omega arith, (refl, (refl, (refl, digits.1))))
item-unwrap (row ∷ rows) key are small =
    let both = and_parts (is_key_text row.1) (list_all (λ (r : ℕ × List ℕ). is_key_text r.1) rows)
    are in
    elim (row.0 == key) as
    (λ b. IsItemText
    (unwrap_or (cond b (Some row.1) (mnemonic_of rows key)) (codes "key" ++ decimal key))) [
      | true ↦ item-key_text row.1 both.0
      | false ↦ item-unwrap rows key both.1 small
    ]

pub item-key_name : (key : ℕ) → key < 65536 → IsItemText (key_name key)
item-key_name key small = item-unwrap parameter_keys key refl (omega arith)
