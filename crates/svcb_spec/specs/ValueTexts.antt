-- The text of a value, by the type that its key has (RFC 9460, section 7; RFC 9461, section 5; RFC
-- 9540, section 4).
use Rattle.std.specs.Prelude.{ℕ, zero, suc, ◌^◌, ◌==◌, nat_lt, nat_le, if◌then◌else◌, List, [], ◌∷◌, length, Option, Some, None, Result, Ok, Err}
use Rattle.std.specs.List.{list_any}
use Rattle.std.specs.Option.{ok_or}
use Rattle.std.specs.Str.{is_utf8}
use Rattle.name_spec.specs.Addresses.{ipv4_of, ipv6_of}
use Rattle.registry.specs.Keys.{parameter_keys}
use Rattle.registry.specs.Texts.{spelled_key, spelled_number}
use Rattle.svcb_spec.specs.Values.{Value, Mandatory, Alpn, NoDefaultAlpn, Port, Ipv4Hint, Ech, Ipv6Hint, DohPath, Ohttp, TlsSupportedGroups, Unknown, encode}
use Rattle.text_spec.specs.declared.errors.ScanError.{ScanError}
use Rattle.text_spec.specs.declared.errors.ScanError.TheVariants.{UnknownKey, MissingValue, UnexpectedValue, LongItem, BadNumber, BadAddress, BadBase64, BadPort, KeyZeroInMandatory, DuplicateItem, BadUtf8, LongValue}
use Rattle.text_spec.specs.Encodings.{base64_of}
use Rattle.svcb_spec.specs.ListTexts.{◌>>=◌, comma_items, plain_item, ItemRead, read_item, some_octets, read_items}

-- ---- items

-- a number that no item before it is
abbrev pub new_item : List ℕ → ℕ → Result ℕ ScanError
new_item before n = if list_any (λ m. m == n) before then Err DuplicateItem else Ok n

-- a key other than `mandatory` itself
abbrev pub other_key : ℕ → Result ℕ ScanError
other_key key = if key == 0 then Err KeyZeroInMandatory else Ok key

-- a key of the list of mandatory keys
abbrev pub mandatory_item : List ℕ → List ℕ → Result ℕ ScanError
mandatory_item before item =
    plain_item item >>= λ text. ok_or (spelled_key parameter_keys text) UnknownKey
    >>= λ key. other_key key >>= new_item before

-- a number of a group
abbrev pub group_item : List ℕ → List ℕ → Result ℕ ScanError
group_item before item =
    plain_item item >>= λ text. ok_or (spelled_number (2 ^ 16) text) BadNumber >>= new_item before

-- an address
abbrev pub address_item : (List ℕ → Option (List ℕ)) → List (List ℕ) → List ℕ
    → Result (List ℕ) ScanError
address_item address before item = plain_item item >>= λ text. ok_or (address text) BadAddress

-- a protocol has at most 255 octets
abbrev pub short_item : ItemRead → Result ItemRead ScanError
short_item read = if nat_lt 255 (length read.item) then Err LongItem else Ok read

-- the next protocol, and what follows it
abbrev pub protocol_item : List ℕ → Result ItemRead ScanError
protocol_item text = read_item text >>= some_octets >>= short_item

-- a protocol in front of the protocols that follow it, where `again` reads what follows
abbrev pub protocols_step : (List ℕ → Result (List (List ℕ)) ScanError) → ItemRead
    → Result (List (List ℕ)) ScanError
protocols_step again read = elim read.rest [
  | None ↦ Ok (read.item ∷ [])
  | Some rest ↦ again rest >>= λ items. Ok (read.item ∷ items)
]

-- at most so many protocols; what stands for none left is never asked for by `protocols_of`
unfoldable pub protocols_within : ℕ → List ℕ → Result (List (List ℕ)) ScanError
protocols_within zero text = Ok []
protocols_within (suc count) text = protocol_item text >>= protocols_step (protocols_within count)

-- The protocols of a list. Each takes at least one octet, so this count is enough: the law
-- `protocols_by_step` says that the definition is a step of itself.
abbrev pub protocols_of : List ℕ → Result (List (List ℕ)) ScanError
protocols_of text = protocols_within (suc (length text)) text

-- ---- values

-- a number in front of the first that is above it
abbrev pub insert_ascending : ℕ → List ℕ → List ℕ
insert_ascending n [] = n ∷ []
insert_ascending n (m ∷ numbers) =
    if nat_le n m then n ∷ m ∷ numbers else m ∷ insert_ascending n numbers

-- numbers in ascending order
abbrev pub in_ascending_order : List ℕ → List ℕ
in_ascending_order [] = []
in_ascending_order (n ∷ numbers) = insert_ascending n (in_ascending_order numbers)

-- a value of at most 65,535 octets
abbrev pub short_value : Value → Result Value ScanError
short_value value = if nat_lt 65535 (length (encode value)) then Err LongValue else Ok value

-- a text that has octets
abbrev pub some_text : List ℕ → Result (List ℕ) ScanError
some_text [] = Err MissingValue
some_text (c ∷ text) = Ok (c ∷ text)

-- a value without a text
abbrev pub no_text : Value → List ℕ → Result Value ScanError
no_text value [] = Ok value
no_text value (c ∷ text) = Err UnexpectedValue

-- a text that is UTF-8
abbrev pub utf8_text : List ℕ → Result (List ℕ) ScanError
utf8_text text = if is_utf8 text then Ok text else Err BadUtf8

abbrev pub mandatory_value : List ℕ → Result Value ScanError
mandatory_value text =
    some_text text >>= λ list. read_items mandatory_item [] (comma_items list)
    >>= λ keys. short_value (Mandatory (in_ascending_order keys))

abbrev pub alpn_value : List ℕ → Result Value ScanError
alpn_value text = some_text text >>= protocols_of >>= λ protocols. short_value (Alpn protocols)

abbrev pub port_value : List ℕ → Result Value ScanError
port_value text =
    some_text text >>= λ digits. ok_or (spelled_number (2 ^ 16) digits) BadPort
    >>= λ port. Ok (Port port)

abbrev pub ipv4hint_value : List ℕ → Result Value ScanError
ipv4hint_value text =
    some_text text >>= λ list. read_items (address_item ipv4_of) [] (comma_items list)
    >>= λ addresses. short_value (Ipv4Hint addresses)

abbrev pub ech_value : List ℕ → Result Value ScanError
ech_value text =
    some_text text >>= λ letters. ok_or (base64_of letters) BadBase64
    >>= λ octets. short_value (Ech octets)

abbrev pub ipv6hint_value : List ℕ → Result Value ScanError
ipv6hint_value text =
    some_text text >>= λ list. read_items (address_item ipv6_of) [] (comma_items list)
    >>= λ addresses. short_value (Ipv6Hint addresses)

abbrev pub dohpath_value : List ℕ → Result Value ScanError
dohpath_value text = utf8_text text >>= λ template. short_value (DohPath template)

abbrev pub groups_value : List ℕ → Result Value ScanError
groups_value text =
    some_text text >>= λ list. read_items group_item [] (comma_items list)
    >>= λ groups. short_value (TlsSupportedGroups groups)

-- a value without a type
abbrev pub opaque_value : ℕ → List ℕ → Result Value ScanError
opaque_value key text = short_value (Unknown key text)

-- the value that a text spells under a key, or its first fault; a key without a type takes any
-- octets
abbrev pub value_of_text : ℕ → List ℕ → Result Value ScanError
value_of_text key text =
    if key == 0 then mandatory_value text
    else if key == 1 then alpn_value text
    else if key == 2 then no_text NoDefaultAlpn text
    else if key == 3 then port_value text
    else if key == 4 then ipv4hint_value text
    else if key == 5 then ech_value text
    else if key == 6 then ipv6hint_value text
    else if key == 7 then dohpath_value text
    else if key == 8 then no_text Ohttp text
    else if key == 9 then groups_value text
    else opaque_value key text
