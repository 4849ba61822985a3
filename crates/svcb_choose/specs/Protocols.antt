-- The protocols of an endpoint (RFC 9460, section 7.1.2).
use Rattle.std.specs.Prelude.{◌≡◌, ℕ, ◌==◌, Bool, List, [], ◌∷◌, ◌++◌, is_some, if◌then◌else◌}
use Rattle.std.specs.List.{list_any}
use Rattle.std.specs.Option.{option_map_or}
use Rattle.std.specs.Ordering.{nat_cmp}
use Rattle.std.specs.Cmp.Lexicographic.{pointwise, slice_cmp}
use Rattle.std.specs.BTreeSet.{BTreeSet, contains}
use Rattle.std.specs.Borrow.{Bor}
use Rattle.std.specs.declared.cmp.Ordering.{Ordering}
use Rattle.svcb_spec.specs.Params.{Pairs}
use Rattle.svcb_params.specs.Items.{typed_at}
use Rattle.svcb_choose.specs.Usability.{alpn_protocols}

-- whether a protocol is in a list
abbrev pub is_listed : List (List ℕ) → List ℕ → Bool
is_listed protocols protocol = list_any (λ other. pointwise ◌==◌ other protocol) protocols

-- the order of borrowed protocols by their octets
abbrev pub by_octets : Bor (List ℕ) → Bor (List ℕ) → Ordering
by_octets protocol other = slice_cmp nat_cmp protocol.now other.now

-- a set of borrowed protocols has exactly those of a list
abbrev pub IsSetOf : BTreeSet (Bor (List ℕ)) → List (List ℕ) → Type 0
IsSetOf known protocols = (protocol : Bor (List ℕ))
    → contains by_octets known protocol ≡ is_listed protocols protocol.now

-- protocols, and then each default in order that isn't in the list so far
abbrev pub with_defaults : List (List ℕ) → List (List ℕ) → List (List ℕ)
with_defaults listed [] = listed
with_defaults listed (protocol ∷ defaults) =
    with_defaults (if is_listed listed protocol then listed else listed ++ protocol ∷ []) defaults

-- the items of `alpn`; there are none where it isn't there
abbrev pub alpn_items : Pairs → List (List ℕ)
alpn_items pairs = option_map_or alpn_protocols (typed_at 1 pairs) []

-- the protocols of a record: the items of `alpn`, and unless `no-default-alpn` is there the
-- defaults
unfoldable pub protocols_of : List (List ℕ) → Pairs → List (List ℕ)
protocols_of defaults pairs =
    if is_some (typed_at 2 pairs) then alpn_items pairs
    else with_defaults (alpn_items pairs) defaults
