-- Laws of the texts of service parameters, which the functions of `src/param_texts.rt` state.
use Rattle.std.specs.Prelude.{◌≡◌, ◌≢◌, ◌↔◌, ℕ, ◌+◌, ◌^◌, ◌<◌, true, List, [], ◌∷◌, ◌++◌, length, map, Contains, IsPermutation, Option, Some, Ok}
use Rattle.std.specs.List.{join_with_byte, AllByRecursion}
use Rattle.name_spec.specs.Addresses.{ipv4_of, ipv6_of}
use Rattle.name_spec.specs.AddressLaws.{AreOctets}
use Rattle.registry.specs.Keys.{parameter_keys}
use Rattle.registry.specs.Texts.{spelled_key, spelled_number}
use Rattle.svcb_spec.specs.BuildingValues.{IsProtocolLength}
use Rattle.svcb_spec.specs.Params.{Pair, Pairs, IsMap}
use Rattle.svcb_spec.specs.Values.{Value, Mandatory, Alpn, Ipv4Hint, Ipv6Hint, TlsSupportedGroups, Unknown, key_of, encode, IsValue}
use Rattle.text_spec.specs.declared.lexeme.Symbol.{Symbol}
use Rattle.text_spec.specs.Pieces.{HasTokens, IsTokenText}
use Rattle.text_spec.specs.Scanning.{octets_of, done}
use Rattle.svcb_spec.specs.ListTexts.{◌>>=◌, comma_items, escaped_item}
use Rattle.svcb_spec.specs.ValueTexts.{protocol_item, protocols_step, protocols_of, in_ascending_order, value_of_text}
use Rattle.svcb_spec.specs.ParamTexts.{spells, params}
use Rattle.svcb_spec.specs.PrintedValues.{value_printed, opaque_text}
use Rattle.svcb_spec.specs.PrintedParams.{are_distinct, ascends_above, has_own_text, pair_printed, pair_texts, params_printed}

-- the text is wholly that of a token whose octets spell the value
abbrev pub IsValueText : List ℕ → Value → Type 0
IsValueText text value = (token : List Symbol) × IsTokenText text token
    × (spells (octets_of token) ≡ Ok value)

-- the text of any octets under a key spells the value without a type
abbrev pub OpaqueReadBack : Type 0
OpaqueReadBack = (key : ℕ) (octets : List ℕ) → key < 65536 → AreOctets octets
    → length octets < 65536
    → IsValueText (opaque_text key octets) (Unknown key octets)

-- the text of a value spells that value, where it has a text of its own among some pairs
abbrev pub TypedReadBack : Type 0
TypedReadBack = (pairs : Pairs) (value : Value) → IsValue value → AreOctets (encode value)
    → has_own_text pairs value ≡ true
    → IsValueText (value_printed value) value

-- the octets of the pairs are octets
abbrev pub HaveOctets : Pairs → Type 0
HaveOctets pairs = AllByRecursion (λ pair. AreOctets pair.1) pairs

-- the text of a pair of a map spells a value of its key and its octets
abbrev pub PairReadBack : Type 0
PairReadBack = (pairs : Pairs) (pair : Pair) → IsMap pairs → HaveOctets pairs → Contains pairs pair
    → (value : Value) × IsValueText (pair_printed pairs pair) value × (key_of value ≡ pair.0)
    × (encode value ≡ pair.1)

-- each text is wholly that of its token
abbrev pub AreTextsOfTokens : List (List ℕ) → List (List Symbol) → Type 0
AreTextsOfTokens [] [] = Unit {0}
AreTextsOfTokens [] (token ∷ tokens) = ⊥
AreTextsOfTokens (text ∷ texts) [] = ⊥
AreTextsOfTokens (text ∷ texts) (token ∷ tokens) =
    IsTokenText text token × AreTextsOfTokens texts tokens

-- the tokens of the texts of a map's pairs, behind any tokens, spell exactly that map
abbrev pub ParamsReadBack : Type 0
ParamsReadBack = (pairs : Pairs) → IsMap pairs → HaveOctets pairs
    → (front tokens : List (List Symbol))
    → AreTextsOfTokens (pair_texts pairs) tokens
    → params (front ++ tokens) (length front) ≡ done pairs (length front + length tokens)

-- the text of a map has tokens, and they spell exactly that map
abbrev pub ParamsTextReadBack : Type 0
ParamsTextReadBack = (pairs : Pairs) → IsMap pairs → HaveOctets pairs
    → (tokens : List (List Symbol)) × HasTokens (params_printed pairs) tokens
    × (params tokens 0 ≡ done pairs (length tokens))

-- Tokens that spell a map spell the same map in any other order, and all of them are taken.
abbrev pub AnyTokenOrder : Type 0
AnyTokenOrder = (front tokens others : List (List Symbol)) (pairs : Pairs) (end : ℕ)
    → IsPermutation tokens others
    → params (front ++ tokens) (length front) ≡ done pairs end
    → (end ≡ length front + length tokens)
    × (params (front ++ others) (length front) ≡ done pairs end)

-- ---- lists, whole

-- no octet of the text is a comma
abbrev pub HasNoComma : List ℕ → Type 0
HasNoComma text = AllByRecursion (λ c. c ≢ 44) text

-- A text has these items exactly where none of them has a comma and they are the text with commas
-- between them. No octets have no items, not one that is empty.
abbrev pub CommaItemsExact : Type 0
CommaItemsExact = (text : List ℕ) (items : List (List ℕ))
    → (comma_items text ≡ items)
    ↔ (AllByRecursion HasNoComma items × (text ≡ join_with_byte 44 items)
    × (0 < length items → 0 < length text))

-- no octet of the text is a backslash
abbrev pub HasNoBackslash : List ℕ → Type 0
HasNoBackslash text = AllByRecursion (λ c. c ≢ 92) text

-- the text of an item in which nothing may be escaped
abbrev pub IsPlainItem : List ℕ → Type 0
IsPlainItem item = (0 < length item) × HasNoComma item × HasNoBackslash item

-- these items, at least one, are the text with commas between them
abbrev pub IsPlainList : List ℕ → List (List ℕ) → Type 0
IsPlainList text items = (0 < length items) × AllByRecursion IsPlainItem items
    × (text ≡ join_with_byte 44 items)

-- the items of the text spell these things in turn, by what reads one
abbrev pub IsListOf : {A : Type 0} → (List ℕ → Option A) → List ℕ → List A → Type 0
IsListOf reads text things = (items : List (List ℕ)) × IsPlainList text items
    × (map reads items ≡ map Some things)

-- the value is the one that was made, and it isn't too long
abbrev pub IsShort : Value → Value → Type 0
IsShort made value = (value ≡ made) × (length (encode made) < 65536)

-- A text spells mandatory keys exactly where its items spell distinct keys other than 0; the value
-- has these ascending.
abbrev pub MandatoryExact : Type 0
MandatoryExact = (text : List ℕ) (value : Value) → (value_of_text 0 text ≡ Ok value)
    ↔ ((keys : List ℕ) × IsListOf (spelled_key parameter_keys) text keys
    × AllByRecursion (λ key. 0 < key) keys × (are_distinct keys ≡ true)
    × IsShort (Mandatory (in_ascending_order keys)) value)

-- the keys of `others` ascend above 0, and are those of `keys`
pub record AreAscending (keys others : List ℕ) : Type 0 where
  pub same : IsPermutation keys others
  pub ascend : ascends_above 0 others ≡ true

-- distinct keys other than 0 in ascending order are the same keys, each above the one before it
abbrev pub AscendingKeys : Type 0
AscendingKeys = (keys : List ℕ) → AllByRecursion (λ key. 0 < key) keys → are_distinct keys ≡ true
    → AreAscending keys (in_ascending_order keys)

-- a text spells addresses under a key exactly where its items do
abbrev pub HintExact : ℕ → (List ℕ → Option (List ℕ)) → (List (List ℕ) → Value) → Type 0
HintExact key reads make = (text : List ℕ) (value : Value) → (value_of_text key text ≡ Ok value)
    ↔ ((addresses : List (List ℕ)) × IsListOf reads text addresses × IsShort (make addresses) value)

-- those of either family
abbrev pub HintsExact : Type 0
HintsExact = HintExact 4 ipv4_of Ipv4Hint × HintExact 6 ipv6_of Ipv6Hint

-- a text spells groups exactly where its items spell distinct numbers, in this order
abbrev pub GroupsExact : Type 0
GroupsExact = (text : List ℕ) (value : Value) → (value_of_text 9 text ≡ Ok value)
    ↔ ((groups : List ℕ) × IsListOf (spelled_number (2 ^ 16)) text groups
    × (are_distinct groups ≡ true) × IsShort (TlsSupportedGroups groups) value)

-- ---- protocols, whole

-- octets that are a protocol
abbrev pub IsProtocol : List ℕ → Type 0
IsProtocol protocol = IsProtocolLength (length protocol)

-- these protocols, at least one, are the text, each in its escaped form, with commas between them
abbrev pub IsProtocolList : List ℕ → List (List ℕ) → Type 0
IsProtocolList text protocols = (0 < length protocols) × AllByRecursion IsProtocol protocols
    × (text ≡ join_with_byte 44 (map escaped_item protocols))

-- A text has these protocols exactly where it is their list: a protocol has one form there, and no
-- other is read.
abbrev pub AlpnExact : Type 0
AlpnExact = (text : List ℕ) (protocols : List (List ℕ)) → (protocols_of text ≡ Ok protocols)
    ↔ IsProtocolList text protocols

-- and under its key it spells the value of them, unless this is too long
abbrev pub AlpnValueExact : Type 0
AlpnValueExact = (text : List ℕ) (value : Value) → (value_of_text 1 text ≡ Ok value)
    ↔ ((protocols : List (List ℕ)) × IsProtocolList text protocols × IsShort (Alpn protocols) value)

-- `protocols_of` is a step of itself
abbrev pub ProtocolsByStep : Type 0
ProtocolsByStep =
    (text : List ℕ) → protocols_of text ≡ (protocol_item text >>= protocols_step protocols_of)
