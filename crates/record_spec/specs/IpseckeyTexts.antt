-- The texts of the data of IPSECKEY records, scanned, printed and laid out (RFC 4025, section 3).
use Rattle.std.specs.Prelude.{ℕ, ◌==◌, true, nat_lt, if◌then◌else◌, List, [], ◌∷◌, ◌++◌, codes, bytes_eq, Option, Some, None}
use Rattle.std.specs.Fmt.{decimal}
use Rattle.name_spec.specs.Printed.{printed_name_with_dot}
use Rattle.name_spec.specs.Addresses.{ipv4_text, ipv6_text}
use Rattle.registry.specs.Tables.{mnemonic_of}
use Rattle.key_registry.specs.Tables.{ipseckey_algorithms, ipseckey_gateway_types}
use Rattle.text_spec.specs.declared.errors.ScanError.TheVariants.{WrongGateway, UnknownGateway, MissingKey, LongRecord}
use Rattle.text_spec.specs.Scanning.{Scanning, one, by_octets, scan_then, done, refused}
use Rattle.text_spec.specs.Encodings.{base64_text}
use Rattle.text_spec.specs.Layouts.{Item, Token, Comment, BlockBegin, BlockEnd}
use Rattle.text_spec.specs.Rows.{number_below, name, ipv4_address, ipv6_address, rest_base64}
use Rattle.text_spec.specs.Documents.{number_comment}
use Rattle.record_spec.specs.declared.Encoding.TheVariants.{Base64}
use Rattle.record_spec.specs.Texts.{numbers_printed, last_printed}
use Rattle.record_spec.specs.Ipseckeys.{Gateway, NoGateway, Ipv4Gateway, Ipv6Gateway, NameGateway, gateway_type, Ipseckey, lacks_key, ipseckey_len}

-- ---- scanned

-- no gateway is written as a dot
abbrev pub no_gateway_of : List ℕ → Option Gateway
no_gateway_of octets = if bytes_eq octets (codes ".") then Some NoGateway else None

-- what is scanned, as a gateway
abbrev pub scan_gateway_as : {V : Type 0} → (V → Gateway) → Scanning V → Scanning Gateway
scan_gateway_as gateway scanning tokens place =
    scan_then (scanning tokens place) (λ found after. done (gateway found) after)

-- a gateway of a type; of an unknown type no token is taken
abbrev pub scan_gateway : ℕ → Scanning Gateway
scan_gateway type tokens place =
    if type == 0 then one (by_octets no_gateway_of WrongGateway) tokens place
    else if type == 1 then scan_gateway_as Ipv4Gateway ipv4_address tokens place
    else if type == 2 then scan_gateway_as Ipv6Gateway ipv6_address tokens place
    else if type == 3 then scan_gateway_as NameGateway name tokens place
    else refused UnknownGateway place

-- data with a key, of at most 65,535 octets, all of whose tokens are taken
abbrev pub complete_ipseckey : Ipseckey → Scanning Ipseckey
complete_ipseckey found tokens end =
    if lacks_key found.algorithm found.key then refused MissingKey end
    else if nat_lt 65535 (ipseckey_len found) then refused LongRecord end
    else done found end

-- three numbers, the gateway, and the key
abbrev pub scan_ipseckey : Scanning Ipseckey
scan_ipseckey tokens place =
    scan_then (number_below 256 tokens place) (λ precedence after_precedence.
    scan_then (number_below 256 tokens after_precedence) (λ type after_type.
    scan_then (number_below 256 tokens after_type) (λ algorithm after_algorithm.
    scan_then (scan_gateway type tokens after_algorithm) (λ gateway after_gateway.
    scan_then (rest_base64 tokens after_gateway) (λ key end.
    complete_ipseckey
    (record { precedence = precedence; algorithm = algorithm; gateway = gateway; key = key })
    tokens end)))))

-- ---- printed

abbrev pub gateway_text : Gateway → List ℕ
gateway_text NoGateway = codes "."
gateway_text (Ipv4Gateway octets) = ipv4_text octets
gateway_text (Ipv6Gateway octets) = ipv6_text octets
gateway_text (NameGateway labels) = printed_name_with_dot labels

-- the three numbers and the gateway, each with a space behind it, and the key in brackets
abbrev pub ipseckey_printed : Ipseckey → List ℕ
ipseckey_printed found =
    numbers_printed (found.precedence ∷ gateway_type found.gateway ∷ found.algorithm ∷ [])
    ++ (gateway_text found.gateway ++ codes " " ++ last_printed Base64 true found.key)

-- ---- laid out

-- a gateway is one token
abbrev pub gateway_document : Gateway → List Item
gateway_document gateway = Token (gateway_text gateway) ∷ []

-- the comment of a gateway's type
abbrev pub type_comment : Gateway → List ℕ
type_comment gateway =
    number_comment (codes "ipseckey gateway type")
    (mnemonic_of ipseckey_gateway_types (gateway_type gateway))

-- the comment of an algorithm
abbrev pub algorithm_comment : ℕ → List ℕ
algorithm_comment algorithm =
    number_comment (codes "ipseckey algorithm") (mnemonic_of ipseckey_algorithms algorithm)

-- a block of the numbers, the gateway and the key; behind the comments of a registry's numbers
-- stand those of the fields
abbrev pub ipseckey_document : Ipseckey → List Item
ipseckey_document found =
    BlockBegin
    ∷ Token (decimal found.precedence) ∷ Comment (codes "precedence")
    ∷ Token (decimal (gateway_type found.gateway)) ∷ Comment (type_comment found.gateway)
    ∷ Comment (codes "gateway type")
    ∷ Token (decimal found.algorithm) ∷ Comment (algorithm_comment found.algorithm)
    ∷ Comment (codes "algorithm")
    ∷ Token (gateway_text found.gateway) ∷ Comment (codes "gateway")
    ∷ Token (base64_text found.key)
    ∷ BlockEnd
    ∷ []
