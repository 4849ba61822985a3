-- Which records a client can use (RFC 9460, sections 7.1 and 8): four facts of a record's
-- parameters, which are its pairs of a key and octets. The last three take malformed octets as no
-- value, which the first refuses.
use Rattle.std.specs.Prelude.{◌≡◌, ℕ, ◌==◌, Bool, true, ◌&&◌, ◌||◌, not, List, [], is_some, is_ok}
use Rattle.std.specs.List.{list_all, list_any}
use Rattle.std.specs.Option.{option_map_or}
use Rattle.svcb_spec.specs.Params.{Pairs}
use Rattle.svcb_spec.specs.Values.{Value, Alpn}
use Rattle.svcb_spec.specs.ReadingValues.{take_value, whole_taken}
use Rattle.svcb_spec.specs.ParamTexts.{mandatory_keys}
use Rattle.svcb_spec.specs.PrintedParams.{holds_key, ascends_above, has_some}
use Rattle.svcb_params.specs.Items.{typed_at}

-- The octets under each key from 0 to 9 are wholly a value of the key's type (section 2.2). Any
-- other key takes any octets.
abbrev pub are_well_formed : Pairs → Bool
are_well_formed pairs =
    list_all (λ pair. is_ok (whole_taken pair.1 (take_value pair.0 pair.1))) pairs

-- a client understands a key
abbrev pub is_understood : List ℕ → ℕ → Bool
is_understood understood key = list_any (λ other. other == key) understood

-- two lists have the same keys
abbrev pub HasKeysOf : List ℕ → List ℕ → Type 0
HasKeysOf known keys = (key : ℕ) → is_understood known key ≡ is_understood keys key

-- The keys that `mandatory` lists: there is one, they ascend strictly, 0 is not among them, and
-- each is a key of the record and is understood.
abbrev pub are_met : List ℕ → Pairs → List ℕ → Bool
are_met understood pairs keys =
    has_some keys && (ascends_above 0 keys && list_all (holds_key pairs) keys)
    && list_all (is_understood understood) keys

-- `mandatory`, where it is there, lists such keys (section 8)
abbrev pub has_met_keys : List ℕ → Pairs → Bool
has_met_keys understood pairs =
    option_map_or (λ value. are_met understood pairs (mandatory_keys value)) (typed_at 0 pairs)
    true

-- the protocols of a value of `alpn`
abbrev pub alpn_protocols : Value → List (List ℕ)
alpn_protocols (Alpn protocols) = protocols
alpn_protocols value = []

-- there is a protocol, and none is empty
abbrev pub are_named : List (List ℕ) → Bool
are_named protocols = has_some protocols && list_all has_some protocols

-- `alpn`, where it is there, lists such protocols (section 7.1.1)
abbrev pub has_named_protocols : Pairs → Bool
has_named_protocols pairs =
    option_map_or (λ value. are_named (alpn_protocols value)) (typed_at 1 pairs) true

-- `no-default-alpn` is there only where `alpn` is (section 7.1.1)
abbrev pub has_alpn_for_no_default : Pairs → Bool
has_alpn_for_no_default pairs = not (is_some (typed_at 2 pairs)) || is_some (typed_at 1 pairs)

-- A client that understands these keys can use a record of these parameters.
unfoldable pub is_usable : List ℕ → Pairs → Bool
is_usable understood pairs =
    are_well_formed pairs && has_met_keys understood pairs && has_named_protocols pairs
    && has_alpn_for_no_default pairs
