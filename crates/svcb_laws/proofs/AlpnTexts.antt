-- Protocols are read back from their text.
use Rattle.std.proofs.Common.{◌≡◌, ℕ, zero, suc, ◌<◌, ◌≤◌, true, false, cond, List, [], ◌∷◌, ◌++◌, map, length, codes, Option, Some, None, Ok, Err, refl, sym, ap, ◌∙◌, arith, append-nil, length-append}
use Rattle.std.specs.Prelude.{◌==◌, nat_lt}
use Rattle.std.specs.List.{join_with_byte, AllByRecursion}
use Rattle.std.proofs.lemmas.Bool.Decides.{nat_tests}
use Rattle.name_spec.specs.Printed.{printed_octets}
use Rattle.name_spec.specs.AddressLaws.{AreOctets}
use Rattle.svcb_spec.specs.Values.{Alpn, encode}
use Rattle.text_spec.specs.declared.errors.ScanError.TheVariants.{BadListEscape, EmptyItem, LongItem}
use Rattle.svcb_spec.specs.ListTexts.{◌>>=◌, is_escaped_in_item, escaped_item, ItemRead, onto_item, read_item, some_octets}
use Rattle.svcb_spec.specs.ValueTexts.{short_item, protocol_item, protocols_step, protocols_within, protocols_of, short_value}
use Rattle.svcb_spec.specs.PrintedValues.{value_printed}
use Rattle.svcb_laws.specs.ParamTextLaws.{IsValueText, IsProtocol}
use Rattle.svcb_laws.proofs.BareTexts.{IsBareText, bare-octets}
use Rattle.svcb_laws.proofs.OpaqueTexts.{short_again}
use Rattle.svcb_laws.proofs.PlainLists.{some_text_again, some-join}
use Rattle.svcb_laws.proofs.ListTexts.{items_again}

-- ---- an escaped item

-- what stands behind an item: nothing, or a comma and the rest
abbrev pub behind_item : Option (List ℕ) → List ℕ
behind_item None = []
behind_item (Some rest) = 44 ∷ rest

not_comma : (c : ℕ) → is_escaped_in_item c ≡ false → (c == 44) ≡ false
not_comma c plain = grind (arith, nat_tests)

not_backslash : (c : ℕ) → is_escaped_in_item c ≡ false → (c == 92) ≡ false
not_backslash c plain = grind (arith, nat_tests)

read_item-plain : (c : ℕ) (text : List ℕ) → is_escaped_in_item c ≡ false
    → read_item (c ∷ text) ≡ onto_item c (read_item text)
read_item-plain c [] plain = rw (not_comma c plain, not_backslash c plain) refl
read_item-plain c (next ∷ text) plain = rw (not_comma c plain, not_backslash c plain) refl

read_item-escape : (c : ℕ) (text : List ℕ) → is_escaped_in_item c ≡ true
    → read_item (92 ∷ c ∷ text) ≡ onto_item c (read_item text)
read_item-escape c text escaped =
    ap (λ b. cond b (onto_item c (read_item text)) (Err BadListEscape)) escaped

-- an escaped item is read as the item, and what follows it is left
read_item-escaped : (item : List ℕ) (rest : Option (List ℕ))
    → read_item (escaped_item item ++ behind_item rest) ≡ Ok (record { item = item; rest = rest })
read_item-escaped [] None = refl
read_item-escaped [] (Some []) = refl
read_item-escaped [] (Some (c ∷ rest)) = refl
read_item-escaped (c ∷ item) rest =
    elim (is_escaped_in_item c) as (λ b. is_escaped_in_item c ≡ b
    → read_item ((cond b (92 ∷ c ∷ []) (c ∷ []) ++ escaped_item item) ++ behind_item rest)
    ≡ Ok (record { item = c ∷ item; rest = rest })) [
      | true ↦ λ escaped. read_item-escape c (escaped_item item ++ behind_item rest) escaped
          ∙ ap (onto_item c) (read_item-escaped item rest)
      | false ↦ λ plain. read_item-plain c (escaped_item item ++ behind_item rest) plain
          ∙ ap (onto_item c) (read_item-escaped item rest)
    ] refl

-- ---- protocols

protocol_item-escaped : (protocol : List ℕ) (rest : Option (List ℕ)) → IsProtocol protocol
    → protocol_item (escaped_item protocol ++ behind_item rest)
    ≡ Ok (record { item = protocol; rest = rest })
protocol_item-escaped protocol rest is =
    let some : 0 < length protocol = is.not_empty in
    let few : length protocol < 256 = omega (arith, is.fits) in
    let full : (length protocol == 0) ≡ false = grind (arith, nat_tests) in
    let short : nat_lt 255 (length protocol) ≡ false = grind (arith, nat_tests) in
    let read : ItemRead = record { item = protocol; rest = rest } in
    ap (λ r. r >>= some_octets >>= short_item) (read_item-escaped protocol rest)
    ∙ ap (λ b. cond b (Err EmptyItem) (Ok read) >>= short_item) full
    ∙ ap (λ b. cond b (Err LongItem) (Ok read)) short

pub protocols_within-step : (count : ℕ) (text : List ℕ)
    → protocols_within (suc count) text
    ≡ (protocol_item text >>= protocols_step (protocols_within count))
unfolding protocols_within
protocols_within-step count text = refl

protocols_within-join : (count : ℕ) (protocol : List ℕ) (protocols : List (List ℕ))
    → length (protocol ∷ protocols) ≤ count → AllByRecursion IsProtocol (protocol ∷ protocols)
    → protocols_within count (join_with_byte 44 (map escaped_item (protocol ∷ protocols)))
    ≡ Ok (protocol ∷ protocols)
protocols_within-join zero protocol protocols enough are = absurd (omega arith)
protocols_within-join (suc count) protocol [] enough are =
    protocols_within-step count (escaped_item protocol)
    ∙ ap (λ (text : List ℕ). protocol_item text >>= protocols_step (protocols_within count))
    (sym (append-nil (escaped_item protocol)))
    ∙ ap (λ r. r >>= protocols_step (protocols_within count))
    (protocol_item-escaped protocol None are.0)
protocols_within-join (suc count) protocol (next ∷ protocols) enough are =
    let rest = join_with_byte 44 (map escaped_item (next ∷ protocols)) in
    protocols_within-step count (escaped_item protocol ++ 44 ∷ rest)
    ∙ ap (λ r. r >>= protocols_step (protocols_within count))
    (protocol_item-escaped protocol (Some rest) are.0)
    ∙ ap (λ r. r >>= λ items. Ok (protocol ∷ items))
    (protocols_within-join count next protocols (omega arith) are.1)

enough_octets : (protocol : List ℕ) (protocols : List (List ℕ))
    → length (protocol ∷ protocols)
    ≤ suc (length (join_with_byte 44 (map escaped_item (protocol ∷ protocols))))
enough_octets protocol [] = omega arith
enough_octets protocol (next ∷ protocols) =
    omega (
      arith,
      enough_octets next protocols,
      length-append (escaped_item protocol)
          (44 ∷ join_with_byte 44 (map escaped_item (next ∷ protocols))),
    )

-- escaped protocols with commas between them are read back
pub protocols_of-join : (protocol : List ℕ) (protocols : List (List ℕ))
    → AllByRecursion IsProtocol (protocol ∷ protocols)
    → protocols_of (join_with_byte 44 (map escaped_item (protocol ∷ protocols)))
    ≡ Ok (protocol ∷ protocols)
protocols_of-join protocol protocols are =
    protocols_within-join
    (suc (length (join_with_byte 44 (map escaped_item (protocol ∷ protocols))))) protocol
    protocols (enough_octets protocol protocols) are

-- ---- the text

octets-escaped : (item : List ℕ) → AreOctets item → AreOctets (escaped_item item)
octets-escaped [] are = tt
octets-escaped (c ∷ item) are =
    elim (is_escaped_in_item c) as
    (λ b. AreOctets (cond b (92 ∷ c ∷ []) (c ∷ []) ++ escaped_item item)) [
      | true ↦ (omega arith, (are.0, octets-escaped item are.1))
      | false ↦ (are.0, octets-escaped item are.1)
    ]

pub some-escaped : (item : List ℕ) → 0 < length item → 0 < length (escaped_item item)
some-escaped [] some = absurd (omega arith)
some-escaped (c ∷ item) some =
    elim (is_escaped_in_item c) as
    (λ b. 0 < length (cond b (92 ∷ c ∷ []) (c ∷ []) ++ escaped_item item)) [
      | true ↦ omega arith
      | false ↦ omega arith
    ]

bare-protocols : (protocols : List (List ℕ)) → AllByRecursion AreOctets protocols
    → AllByRecursion (λ protocol. IsBareText (printed_octets (escaped_item protocol))
    (escaped_item protocol)) protocols
bare-protocols [] are = tt
bare-protocols (protocol ∷ protocols) are = (
  bare-octets (escaped_item protocol) (octets-escaped protocol are.0),
  bare-protocols protocols
      are.1,
)

pub alpn_again : (protocol : List ℕ) (protocols : List (List ℕ))
    → AllByRecursion IsProtocol (protocol ∷ protocols) → AllByRecursion AreOctets (protocol ∷ protocols)
    → length (encode (Alpn (protocol ∷ protocols))) < 65536
    → IsValueText (value_printed (Alpn (protocol ∷ protocols))) (Alpn (protocol ∷ protocols))
alpn_again protocol protocols are octets few =
    let list = join_with_byte 44 (map escaped_item (protocol ∷ protocols)) in
    items_again (codes "alpn") (λ item. printed_octets (escaped_item item)) escaped_item protocol
    protocols (Alpn (protocol ∷ protocols)) refl
    (bare-protocols (protocol ∷ protocols) octets)
    (ap (λ r. r >>= protocols_of >>= λ items. short_value (Alpn items))
    (some_text_again list
    (some-join (escaped_item protocol) (map escaped_item protocols)
    (some-escaped protocol are.0.not_empty)))
    ∙ ap (λ r. r >>= λ items. short_value (Alpn items)) (protocols_of-join protocol protocols are)
    ∙ short_again (Alpn (protocol ∷ protocols)) few)
