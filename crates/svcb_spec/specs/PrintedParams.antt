-- How parameters are printed: each pair so that its text gives it back.
use Rattle.std.specs.Prelude.{ℕ, ◌==◌, Bool, true, false, ◌&&◌, not, nat_lt, if◌then◌else◌, List, [], ◌∷◌, map}
use Rattle.std.specs.List.{list_all, list_any, join_with_byte}
use Rattle.name_spec.specs.Printed.{is_special, is_visible}
use Rattle.svcb_spec.specs.Params.{Pair, Pairs}
use Rattle.svcb_spec.specs.Values.{Value, Mandatory, Alpn, NoDefaultAlpn, Port, Ipv4Hint, Ech, Ipv6Hint, DohPath, Ohttp, TlsSupportedGroups, Unknown}
use Rattle.svcb_spec.specs.ReadingValues.{value_in}
use Rattle.svcb_spec.specs.PrintedValues.{value_printed, opaque_text}

-- whether a map has a key
abbrev pub holds_key : Pairs → ℕ → Bool
holds_key pairs key = list_any (λ pair. pair.0 == key) pairs

-- whether keys ascend strictly from above a number
abbrev pub ascends_above : ℕ → List ℕ → Bool
ascends_above least [] = true
ascends_above least (key ∷ keys) = nat_lt least key && ascends_above key keys

-- whether numbers are distinct
abbrev pub are_distinct : List ℕ → Bool
are_distinct [] = true
are_distinct (n ∷ numbers) = not (list_any (λ m. m == n) numbers) && are_distinct numbers

-- whether there is something in a list
abbrev pub has_some : {A : Type 0} → List A → Bool
has_some [] = false
has_some (x ∷ xs) = true

-- an octet that stands for itself in a token
abbrev pub is_plain : ℕ → Bool
is_plain c = is_visible c && not (is_special c)

-- Whether the text of a value gives its octets back, among these pairs. A value without a type has
-- no text of a type.
abbrev pub has_own_text : Pairs → Value → Bool
has_own_text pairs (Mandatory keys) =
    has_some keys && ascends_above 0 keys && list_all (holds_key pairs) keys
has_own_text pairs (Alpn protocols) = has_some protocols && list_all has_some protocols
has_own_text pairs NoDefaultAlpn = true
has_own_text pairs (Port port) = true
has_own_text pairs (Ipv4Hint addresses) = has_some addresses
has_own_text pairs (Ech octets) = has_some octets
has_own_text pairs (Ipv6Hint addresses) = has_some addresses
has_own_text pairs (DohPath octets) = list_all is_plain octets
has_own_text pairs Ohttp = true
has_own_text pairs (TlsSupportedGroups groups) = are_distinct groups
has_own_text pairs (Unknown key octets) = false

-- the text of a pair: that of the value that its octets wholly are, where this gives them back,
-- else that of any octets
abbrev pub pair_printed : Pairs → Pair → List ℕ
pair_printed pairs pair =
    let value = value_in pair.0 pair.1 in
    if has_own_text pairs value then value_printed value else opaque_text pair.0 pair.1

-- the texts of the pairs, one token each
abbrev pub pair_texts : Pairs → List (List ℕ)
pair_texts pairs = map (pair_printed pairs) pairs

-- the text of parameters
abbrev pub params_printed : Pairs → List ℕ
params_printed pairs = join_with_byte 32 (pair_texts pairs)
