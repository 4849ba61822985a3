-- Values of a type are read back from their texts, all but protocols.
use Rattle.std.proofs.Common.{◌≡◌, ℕ, zero, suc, ◌^◌, ◌<◌, true, false, cond, not, List, [], ◌∷◌, ◌++◌, length, codes, Option, Some, Result, Ok, Err, refl, sym, ap, ◌∙◌, subst, arith}
use Rattle.std.specs.Prelude.{◌==◌, nat_lt, nat_le}
use Rattle.std.specs.Fmt.{decimal}
use Rattle.std.specs.List.{concat, list_all, AllByRecursion}
use Rattle.std.specs.Option.{ok_or}
use Rattle.std.specs.Str.{is_utf8, IsAscii}
use Rattle.std.proofs.lemmas.Bool.{and_parts, and_from}
use Rattle.std.proofs.lemmas.Bool.Decides.{nat_tests}
use Rattle.std.proofs.lemmas.Str.{IsUtf8-from_ascii, is_utf8-from_IsUtf8}
use Rattle.base64.specs.Rfc4648.{encode_symbols}
use Rattle.name_spec.specs.Printed.{printed_octets}
use Rattle.name_spec.specs.Addresses.{ipv4_of, ipv6_of, ipv4_text, ipv6_text}
use Rattle.name_spec.specs.AddressLaws.{AreOctets}
use Rattle.name_spec.proofs.AddressTexts.{ipv4_again, ipv6_again}
use Rattle.registry.specs.Keys.{parameter_keys}
use Rattle.registry.specs.Texts.{spelled_key, spelled_number}
use Rattle.registry.specs.KeyLaws.{spelled_key-printed_key}
use Rattle.registry.specs.TextLaws.{spelled_number-decimal}
use Rattle.svcb_spec.specs.Values.{Mandatory, NoDefaultAlpn, Port, Ipv4Hint, Ech, Ipv6Hint, DohPath, Ohttp, TlsSupportedGroups, encode}
use Rattle.text_spec.specs.declared.errors.ScanError.{ScanError}
use Rattle.text_spec.specs.declared.errors.ScanError.TheVariants.{UnknownKey, BadNumber, BadAddress, BadBase64, BadPort, KeyZeroInMandatory, BadUtf8}
use Rattle.text_spec.specs.Encodings.{base64_of, base64_text}
use Rattle.text_spec.specs.Pieces.{is_bare}
use Rattle.text_spec.proofs.EncodingTexts.{base64_again}
use Rattle.text_spec.proofs.PlainTexts.{ArePlain, ArePlain-decimal, ArePlain-base64}
use Rattle.svcb_spec.specs.ListTexts.{◌>>=◌}
use Rattle.svcb_spec.specs.ValueTexts.{new_item, other_key, mandatory_item, group_item, address_item, insert_ascending, in_ascending_order, short_value, port_value, ech_value}
use Rattle.svcb_spec.specs.PrintedValues.{key_name, value_printed, with_text}
use Rattle.svcb_spec.specs.PrintedParams.{ascends_above, are_distinct, is_plain}
use Rattle.svcb_laws.specs.ParamTextLaws.{IsValueText}
use Rattle.svcb_laws.proofs.BareTexts.{bare-plain, bare_text_of, spells-behind}
use Rattle.svcb_laws.proofs.OpaqueTexts.{short_again, with_text_again}
use Rattle.svcb_laws.proofs.ItemTexts.{IsItemText, item-decimal, item-ipv4, item-ipv6, item-key_name}
use Rattle.svcb_laws.proofs.PlainLists.{AllNew, Each-map, some_text_again}
use Rattle.svcb_laws.proofs.NumberLists.{is_in, or_false, IsNew, new_again, distinct-all_new}
use Rattle.svcb_laws.proofs.ListTexts.{items_again, item_again, IsReadBack, list_again, bare-items}

-- ---- values without a list

pub no_default_alpn_again : IsValueText (value_printed NoDefaultAlpn) NoDefaultAlpn
no_default_alpn_again =
    with_text_again (codes "no-default-alpn") [] [] NoDefaultAlpn (omega arith) refl
    (bare-plain [] tt) refl

pub ohttp_again : IsValueText (value_printed Ohttp) Ohttp
ohttp_again = with_text_again (codes "ohttp") [] [] Ohttp (omega arith) refl (bare-plain [] tt) refl

pub port_again : (port : ℕ) → port < 65536 → IsValueText (value_printed (Port port)) (Port port)
port_again port small =
    let plain = ArePlain-decimal port (omega arith) in
    let read : port_value (decimal port) ≡ Ok (Port port) =
    ap (λ r. r >>= λ digits. ok_or (spelled_number (2 ^ 16) digits) BadPort >>= λ n. Ok (Port n))
    (some_text_again (decimal port) (item-decimal port (omega arith)).0)
    ∙ ap (λ (o : Option ℕ). ok_or o BadPort >>= λ n. Ok (Port n))
    (spelled_number-decimal 65536 port small (omega arith)) in
    bare_text_of (codes "port=" ++ decimal port) (codes "port=" ++ decimal port) (Port port)
    (bare-plain (codes "port=" ++ decimal port) (refl, (refl, (refl, (refl, (refl, plain))))))
    (spells-behind (codes "port") (decimal port) refl ∙ read)

base64_none : base64_text [] ≡ []
unfolding encode_symbols
base64_none = refl

some_if : (octets : List ℕ) → (octets ≡ [] → ⊥) → 0 < length octets
some_if [] other = absurd (other refl)
some_if (c ∷ octets) other = omega arith

same_some : {A : Type 0} (x y : A) → Some x ≡ Some y → x ≡ y
same_some x y is = cc

some_base64 : (octets : List ℕ) → 0 < length octets → AreOctets octets
    → 0 < length (base64_text octets)
some_base64 octets some are = some_if (base64_text octets) (λ none.
    let empty : octets ≡ [] =
    same_some octets [] (sym (base64_again octets are) ∙ ap base64_of (none ∙ sym base64_none)
    ∙ base64_again [] tt) in
    omega (arith, ap length empty))

pub ech_again : (octets : List ℕ) → 0 < length octets → AreOctets octets → length octets < 65536
    → IsValueText (value_printed (Ech octets)) (Ech octets)
ech_again octets some are few =
    let read : ech_value (base64_text octets) ≡ Ok (Ech octets) =
    ap (λ r. r >>= λ letters. ok_or (base64_of letters) BadBase64
    >>= λ octets. short_value (Ech octets))
    (some_text_again (base64_text octets) (some_base64 octets some are))
    ∙ ap (λ (o : Option (List ℕ)). ok_or o BadBase64 >>= λ octets. short_value (Ech octets))
    (base64_again octets are)
    ∙ short_again (Ech octets) few in
    with_text_again (codes "ech") (base64_text octets) (base64_text octets) (Ech octets)
    (omega arith) refl
    (bare-plain (base64_text octets) (ArePlain-base64 octets are)) read

bare-plain_octet : (c : ℕ) → is_plain c ≡ true → is_bare c ≡ true
bare-plain_octet c plain = grind (arith, nat_tests)

below-plain_octet : (c : ℕ) → is_plain c ≡ true → c < 128
below-plain_octet c plain = grind (arith, nat_tests)

plain_text : (octets : List ℕ) → list_all is_plain octets ≡ true → ArePlain octets
plain_text [] are = tt
plain_text (c ∷ octets) are =
    let both = and_parts (is_plain c) (list_all is_plain octets) are in
    (bare-plain_octet c both.0, plain_text octets both.1)

plain_ascii : (octets : List ℕ) → list_all is_plain octets ≡ true → IsAscii octets
plain_ascii [] are i = omega arith
plain_ascii (c ∷ octets) are zero =
    below-plain_octet c (and_parts (is_plain c) (list_all is_plain octets) are).0
plain_ascii (c ∷ octets) are (suc i) =
    plain_ascii octets (and_parts (is_plain c) (list_all is_plain octets) are).1 i

pub dohpath_again : (octets : List ℕ) → list_all is_plain octets ≡ true → length octets < 65536
    → IsValueText (value_printed (DohPath octets)) (DohPath octets)
dohpath_again octets are few =
    let utf8 : is_utf8 octets ≡ true =
    is_utf8-from_IsUtf8 octets (IsUtf8-from_ascii octets (plain_ascii octets are)) in
    subst (λ b. IsValueText (with_text (codes "dohpath") (cond b octets (printed_octets octets)))
    (DohPath octets)) (sym utf8)
    (with_text_again (codes "dohpath") octets octets (DohPath octets) (omega arith) refl
    (bare-plain octets (plain_text octets are))
    (ap (λ b. cond b (Ok octets) (Err BadUtf8) >>= λ template. short_value (DohPath template)) utf8
    ∙ short_again (DohPath octets) few))

-- ---- addresses

address_again : (address : List ℕ → Option (List ℕ)) (print : List ℕ → List ℕ)
    (before : List (List ℕ)) (item : List ℕ) → IsItemText (print item)
    → address (print item) ≡ Some item → address_item address before (print item) ≡ Ok item
address_again address print before item is read =
    ap (λ r. r >>= λ text. ok_or (address text) BadAddress) (item_again (print item) is)
    ∙ ap (λ (o : Option (List ℕ)). ok_or o BadAddress) read

addresses_back : (address : List ℕ → Option (List ℕ)) (print : List ℕ → List ℕ)
    (before items : List (List ℕ)) → AllByRecursion (λ item. IsItemText (print item)) items
    → AllByRecursion (λ item. address (print item) ≡ Some item) items
    → IsReadBack (address_item address) print before items
addresses_back address print before [] are read = tt
addresses_back address print before (item ∷ items) are read = (
  address_again address print before item are.0 read.0,
  addresses_back address print
      (before ++ item ∷ []) items are.1 read.1,
)

pub octets-front : (front behind : List ℕ) → AreOctets (front ++ behind) → AreOctets front
    × AreOctets behind
octets-front [] behind are = (tt, are)
octets-front (c ∷ front) behind are = let rest = octets-front front behind are.1
    in ((are.0, rest.0), rest.1)

-- items of octets
each_octets : (P : List ℕ → Type 0) (items : List (List ℕ)) → AllByRecursion P items
    → AreOctets (concat items) → AllByRecursion (λ item. P item × AreOctets item) items
each_octets P [] have are = tt
each_octets P (item ∷ items) have are = let both = octets-front item (concat items) are
    in ((have.0, both.0), each_octets P items have.1 both.1)

-- addresses of one length, by their text
abbrev IsAddress : ℕ → List ℕ → Type 0
IsAddress len item = (length item ≡ len) × AreOctets item

pub ipv4hint_again : (address : List ℕ) (addresses : List (List ℕ))
    → AllByRecursion (λ item. length item ≡ 4) (address ∷ addresses)
    → AreOctets (concat (address ∷ addresses))
    → length (concat (address ∷ addresses)) < 65536
    → IsValueText (value_printed (Ipv4Hint (address ∷ addresses)))
    (Ipv4Hint (address ∷ addresses))
ipv4hint_again address addresses four are few =
    let each = each_octets (λ item. length item ≡ 4) (address ∷ addresses) four are in
    let texts = Each-map (IsAddress 4) (λ item. IsItemText (ipv4_text item)) (address ∷ addresses)
    (λ item is. item-ipv4 item is.0 is.1) each in
    let read = Each-map (IsAddress 4) (λ item. ipv4_of (ipv4_text item) ≡ Some item)
    (address ∷ addresses) (λ item is. ipv4_again item is.0 is.1) each in
    items_again (codes "ipv4hint") ipv4_text ipv4_text address addresses
    (Ipv4Hint (address ∷ addresses)) refl (bare-items ipv4_text (address ∷ addresses) texts)
    (list_again (address_item ipv4_of) ipv4_text Ipv4Hint address addresses texts
    (addresses_back ipv4_of ipv4_text [] (address ∷ addresses) texts read) few)

pub ipv6hint_again : (address : List ℕ) (addresses : List (List ℕ))
    → AllByRecursion (λ item. length item ≡ 16) (address ∷ addresses)
    → AreOctets (concat (address ∷ addresses))
    → length (concat (address ∷ addresses)) < 65536
    → IsValueText (value_printed (Ipv6Hint (address ∷ addresses)))
    (Ipv6Hint (address ∷ addresses))
ipv6hint_again address addresses sixteen are few =
    let each = each_octets (λ item. length item ≡ 16) (address ∷ addresses) sixteen are in
    let texts = Each-map (IsAddress 16) (λ item. IsItemText (ipv6_text item)) (address ∷ addresses)
    (λ item is. item-ipv6 item is.0 is.1) each in
    let read = Each-map (IsAddress 16) (λ item. ipv6_of (ipv6_text item) ≡ Some item)
    (address ∷ addresses) (λ item is. ipv6_again item is.0 is.1) each in
    items_again (codes "ipv6hint") ipv6_text ipv6_text address addresses
    (Ipv6Hint (address ∷ addresses)) refl (bare-items ipv6_text (address ∷ addresses) texts)
    (list_again (address_item ipv6_of) ipv6_text Ipv6Hint address addresses texts
    (addresses_back ipv6_of ipv6_text [] (address ∷ addresses) texts read) few)

-- ---- numbers, none twice

-- a rule that reads each new number of a kind reads distinct ones
numbers_back : (P : ℕ → Type 0) (rule : List ℕ → List ℕ → Result ℕ ScanError) (print : ℕ → List ℕ)
    → ((before : List ℕ) (n : ℕ) → P n → is_in before n ≡ false → rule before (print n) ≡ Ok n)
    → (before numbers : List ℕ) → AllNew (IsNew P) before numbers
    → IsReadBack rule print before numbers
numbers_back P rule print reads before [] new = tt
numbers_back P rule print reads before (n ∷ numbers) new = (
  reads before n new.0.0 new.0.1,
  numbers_back P rule print reads
      (before ++ n ∷ []) numbers new.1,
)

group_again : (before : List ℕ) (n : ℕ) → n < 65536 → is_in before n ≡ false
    → group_item before (decimal n) ≡ Ok n
group_again before n small new =
    ap (λ r. r >>= λ text. ok_or (spelled_number (2 ^ 16) text) BadNumber >>= new_item before)
    (item_again (decimal n) (item-decimal n (omega arith)))
    ∙ ap (λ (o : Option ℕ). ok_or o BadNumber >>= new_item before)
    (spelled_number-decimal 65536 n small (omega arith))
    ∙ new_again before n new

pub groups_again : (group : ℕ) (groups : List ℕ) → AllByRecursion (λ n. n < 65536) (group ∷ groups)
    → are_distinct (group ∷ groups) ≡ true
    → length (encode (TlsSupportedGroups (group ∷ groups))) < 65536
    → IsValueText (value_printed (TlsSupportedGroups (group ∷ groups)))
    (TlsSupportedGroups (group ∷ groups))
groups_again group groups small distinct few =
    let texts = Each-map (λ n. n < 65536) (λ n. IsItemText (decimal n)) (group ∷ groups)
    (λ n lt. item-decimal n (omega arith)) small in
    items_again (codes "tls-supported-groups") decimal decimal group groups
    (TlsSupportedGroups (group ∷ groups)) refl (bare-items decimal (group ∷ groups) texts)
    (list_again group_item decimal TlsSupportedGroups group groups texts
    (numbers_back (λ n. n < 65536) group_item decimal group_again [] (group ∷ groups)
    (distinct-all_new (λ n. n < 65536) (group ∷ groups) small distinct)) few)

-- ---- keys

abbrev IsListedKey : ℕ → Type 0
IsListedKey key = (0 < key) × (key < 65536)

mandatory_again : (before : List ℕ) (key : ℕ) → IsListedKey key → is_in before key ≡ false
    → mandatory_item before (key_name key) ≡ Ok key
mandatory_again before key listed new =
    let above : 0 < key = listed.0 in
    let other : (key == 0) ≡ false = grind (arith, nat_tests) in
    ap (λ r. r >>= λ text. ok_or (spelled_key parameter_keys text) UnknownKey
    >>= λ key. other_key key >>= new_item before)
    (item_again (key_name key) (item-key_name key listed.1))
    ∙ ap (λ (o : Option ℕ). ok_or o UnknownKey >>= λ key. other_key key >>= new_item before)
    (spelled_key-printed_key parameter_keys refl key listed.1)
    ∙ ap (λ b. cond b (Err KeyZeroInMandatory) (Ok key) >>= new_item before) other
    ∙ new_again before key new

above_other : (n m : ℕ) → nat_lt n m ≡ true → (m == n) ≡ false
above_other n m above = grind (arith, nat_tests)

above_lower : (n m k : ℕ) → nat_lt n m ≡ true → nat_lt m k ≡ true → nat_lt n k ≡ true
above_lower n m k above more = grind (arith, nat_tests)

ascends_lower : (n m : ℕ) (keys : List ℕ) → nat_lt n m ≡ true → ascends_above m keys ≡ true
    → ascends_above n keys ≡ true
ascends_lower n m [] above ascends = refl
ascends_lower n m (key ∷ keys) above ascends =
    let parts = and_parts (nat_lt m key) (ascends_above key keys) ascends in
    and_from (nat_lt n key) (ascends_above key keys) (above_lower n m key above parts.0) parts.1

ascends_new : (n : ℕ) (keys : List ℕ) → ascends_above n keys ≡ true → is_in keys n ≡ false
ascends_new n [] ascends = refl
ascends_new n (key ∷ keys) ascends =
    let parts = and_parts (nat_lt n key) (ascends_above key keys) ascends in
    or_false (key == n) (is_in keys n) (above_other n key parts.0)
    (ascends_new n keys (ascends_lower n key keys parts.0 parts.1))

-- keys that ascend are distinct
ascends_distinct : (least : ℕ) (keys : List ℕ) → ascends_above least keys ≡ true
    → are_distinct keys ≡ true
ascends_distinct least [] ascends = refl
ascends_distinct least (key ∷ keys) ascends =
    let parts = and_parts (nat_lt least key) (ascends_above key keys) ascends in
    and_from (not (is_in keys key)) (are_distinct keys) (ap not (ascends_new key keys parts.1))
    (ascends_distinct key keys parts.1)

ascends_first : (n m : ℕ) → nat_lt n m ≡ true → nat_le n m ≡ true
ascends_first n m above = grind (arith, nat_tests)

insert_first : (n : ℕ) (keys : List ℕ) → ascends_above n keys ≡ true
    → insert_ascending n keys ≡ n ∷ keys
insert_first n [] ascends = refl
insert_first n (key ∷ keys) ascends =
    let parts = and_parts (nat_lt n key) (ascends_above key keys) ascends in
    ap (λ b. cond b (n ∷ key ∷ keys) (key ∷ insert_ascending n keys)) (ascends_first n key parts.0)

-- keys that ascend stay in their order
ascending_again : (least : ℕ) (keys : List ℕ) → ascends_above least keys ≡ true
    → in_ascending_order keys ≡ keys
ascending_again least [] ascends = refl
ascending_again least (key ∷ keys) ascends =
    let parts = and_parts (nat_lt least key) (ascends_above key keys) ascends in
    ap (insert_ascending key) (ascending_again key keys parts.1) ∙ insert_first key keys parts.1

listed_above : (n key : ℕ) → nat_lt n key ≡ true → 0 < key
listed_above n key above = grind (arith, nat_tests)

listed_keys : (least : ℕ) (keys : List ℕ) → AllByRecursion (λ key. key < 65536) keys
    → ascends_above least keys ≡ true → AllByRecursion IsListedKey keys
listed_keys least [] small ascends = tt
listed_keys least (key ∷ keys) small ascends =
    let parts = and_parts (nat_lt least key) (ascends_above key keys) ascends in
    ((listed_above least key parts.0, small.0), listed_keys key keys small.1 parts.1)

pub mandatory_value_again : (key : ℕ) (keys : List ℕ) → AllByRecursion (λ key. key < 65536) (key ∷ keys)
    → ascends_above 0 (key ∷ keys) ≡ true
    → length (encode (Mandatory (key ∷ keys))) < 65536
    → IsValueText (value_printed (Mandatory (key ∷ keys))) (Mandatory (key ∷ keys))
mandatory_value_again key keys small ascends few =
    let in_order : in_ascending_order (key ∷ keys) ≡ key ∷ keys =
    ascending_again 0 (key ∷ keys) ascends in
    let listed = listed_keys 0 (key ∷ keys) small ascends in
    let texts = Each-map IsListedKey (λ n. IsItemText (key_name n)) (key ∷ keys)
    (λ n is. item-key_name n is.1) listed in
    items_again (codes "mandatory") key_name key_name key keys (Mandatory (key ∷ keys)) refl
    (bare-items key_name (key ∷ keys) texts)
    (list_again mandatory_item key_name (λ (ns : List ℕ). Mandatory (in_ascending_order ns)) key
    keys texts
    (numbers_back IsListedKey mandatory_item key_name mandatory_again [] (key ∷ keys)
    (distinct-all_new IsListedKey (key ∷ keys) listed (ascends_distinct 0 (key ∷ keys) ascends)))
    (subst (λ (ns : List ℕ). length (encode (Mandatory ns)) < 65536) (sym in_order) few)
    ∙ ap (λ (ns : List ℕ). Ok (Mandatory ns)) in_order)
