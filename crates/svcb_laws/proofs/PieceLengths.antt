-- How long the pieces of a text are: octets, numbers, keys, base64, and items between separators.
-- Offered to the crates above: `number-length`, `octet-length` and `base64-length`.
use Rattle.std.proofs.Common.{◌≡◌, ℕ, ◌+◌, ◌*◌, ◌<◌, ◌≤◌, Bool, true, false, cond, List, [], ◌∷◌, ◌++◌, length, codes, Some, refl, arith, length-append}
use Rattle.std.proofs.lemmas.Bool.{and_parts}
use Rattle.std.proofs.lemmas.Bool.Decides.{nat_tests}
use Rattle.std.proofs.lemmas.Fmt.{length-decimal-le}
use Rattle.std.proofs.lemmas.List.{length-replicate}
use Rattle.std.specs.Prelude.{◌==◌, nat_lt, unwrap_or, replicate}
use Rattle.std.specs.Fmt.{decimal}
use Rattle.std.specs.List.{list_all, flat_map, join_with_byte}
use Rattle.base64.specs.Rfc4648.{encode_symbols, padding_len}
use Rattle.name_spec.specs.Printed.{Written, Plain, Escaped, Decimal, octet_text, printed_as, printed_octet, printed_octets, printed_label, is_special, is_special_in_name}
use Rattle.registry.specs.Keys.{parameter_keys}
use Rattle.registry.specs.Tables.{mnemonic_of}
use Rattle.text_spec.specs.Encodings.{letters, base64_text}
use Rattle.svcb_spec.specs.ListTexts.{is_escaped_in_item, escaped_item}
use Rattle.svcb_spec.specs.PrintedValues.{key_name, opaque_key_name, with_text, with_items}

-- ---- octets

written-length : (way : Written) → length (octet_text way) ≤ 4
written-length (Plain octet) = omega arith
written-length (Escaped octet) = omega arith
written-length (Decimal octet) = omega arith

module _ (special : ℕ → Bool) where
  spelled-length : (octets : List ℕ)
      → length (flat_map (printed_octet special) octets) ≤ 4 * length octets
  spelled-length [] = omega arith
  spelled-length (octet ∷ octets) =
      let first = written-length (printed_as special octet) in
      let others = spelled-length octets in
      omega (
        arith,
        first,
        others,
        length-append (printed_octet special octet)
            (flat_map (printed_octet special) octets),
      )

pub octets-length : (octets : List ℕ) → length (printed_octets octets) ≤ 4 * length octets
octets-length octets = spelled-length is_special octets

pub label-length : (label : List ℕ) → length (printed_label label) ≤ 4 * length label
label-length label = spelled-length is_special_in_name label

escape-length : (escaped : Bool) (c : ℕ) → length (cond escaped (92 ∷ c ∷ []) (c ∷ [])) ≤ 2
escape-length true c = omega arith
escape-length false c = omega arith

pub item-length : (item : List ℕ) → length (escaped_item item) ≤ 2 * length item
item-length [] = omega arith
item-length (c ∷ item) =
    let first = escape-length (is_escaped_in_item c) c in
    let others = item-length item in
    omega (
      arith,
      first,
      others,
      length-append (cond (is_escaped_in_item c) (92 ∷ c ∷ []) (c ∷ []))
          (escaped_item item),
    )

-- ---- numbers and keys

pub number-length : (n : ℕ) → n < 65536 → length (decimal n) ≤ 5
number-length n small = length-decimal-le 5 n (omega arith) (omega arith) (omega arith)

pub octet-length : (n : ℕ) → n < 256 → length (decimal n) ≤ 3
octet-length n small = length-decimal-le 3 n (omega arith) (omega arith) (omega arith)

-- a text of a table, or else another, where none of them is longer than a key
mnemonic-length : (rows : List (ℕ × List ℕ)) (n : ℕ) (text : List ℕ)
    → list_all (λ row. nat_lt (length row.1) 21) rows ≡ true → length text ≤ 20
    → length (unwrap_or (mnemonic_of rows n) text) ≤ 20
mnemonic-length [] n text short few = few
mnemonic-length (row ∷ rows) n text short few =
    let both = and_parts (nat_lt (length row.1) 21)
    (list_all (λ row. nat_lt (length row.1) 21) rows) short in
    let own : length row.1 ≤ 20 = grind (arith, nat_tests) in
    elim (row.0 == n) as
    (λ is. length (unwrap_or (cond is (Some row.1) (mnemonic_of rows n)) text) ≤ 20) [
      | true ↦ own
      | false ↦ mnemonic-length rows n text both.1 few
    ]

pub key-length : (key : ℕ) → key < 65536 → length (key_name key) ≤ 20
key-length key small =
    let number = number-length key small in
    mnemonic-length parameter_keys key (codes "key" ++ decimal key) refl (omega arith)

pub opaque_key-length : (key : ℕ) → key < 65536 → length (opaque_key_name key) ≤ 20
opaque_key-length key small =
    let number = number-length key small in
    elim (nat_lt key 10) as
    (λ typed. length (cond typed (codes "key" ++ decimal key) (key_name key)) ≤ 20) [
      | true ↦ omega arith
      | false ↦ key-length key small
    ]

-- ---- base64

symbols-length : (table octets : List ℕ) → length (encode_symbols table octets) ≤ 2 * length octets
unfolding encode_symbols
symbols-length table [] = omega arith
symbols-length table (a ∷ []) = omega arith
symbols-length table (a ∷ b ∷ []) = omega arith
symbols-length table (a ∷ b ∷ c ∷ octets) = let others = symbols-length table octets in omega arith

pub base64-length : (octets : List ℕ) → length (base64_text octets) ≤ 2 * length octets + 2
base64-length octets =
    let symbols = symbols-length letters octets in
    let padding = length-replicate {A = ℕ} (padding_len (length octets)) 61 in
    omega (
      arith,
      symbols,
      padding,
      length-append (encode_symbols letters octets)
          (replicate (padding_len (length octets)) 61),
    )

-- ---- a key and what is behind it

pub with_text-length : (key text : List ℕ)
    → length (with_text key text) ≤ length key + length text + 1
with_text-length key text =
    elim (length text == 0) as
    (λ none. length (cond none key (key ++ 61 ∷ text)) ≤ length key + length text + 1) [
      | true ↦ omega arith
      | false ↦ omega (arith, length-append key (61 ∷ text))
    ]

-- the octets of items with one more for each
abbrev pub room : List (List ℕ) → ℕ
room [] = 0
room (item ∷ items) = length item + 1 + room items

pub join-length : (c : ℕ) (items : List (List ℕ)) → length (join_with_byte c items) ≤ room items
join-length c [] = omega arith
join-length c (item ∷ []) = omega arith
join-length c (item ∷ next ∷ items) =
    let others = join-length c (next ∷ items) in
    omega (arith, others, length-append item (c ∷ join_with_byte c (next ∷ items)))

-- the separator before the first item is the one that stands behind no last item
join-short : (c : ℕ) (item : List ℕ) (items : List (List ℕ))
    → length (join_with_byte c (item ∷ items)) + 1 ≤ room (item ∷ items)
join-short c item [] = omega arith
join-short c item (next ∷ items) =
    let others = join-short c next items in
    omega (arith, others, length-append item (c ∷ join_with_byte c (next ∷ items)))

pub with_items-length : (key : List ℕ) (items : List (List ℕ))
    → length (with_items key items) ≤ length key + room items
with_items-length key [] = omega arith
with_items-length key (item ∷ items) =
    let list = join-short 44 item items in
    omega (arith, list, length-append key (61 ∷ join_with_byte 44 (item ∷ items)))
