-- How the data of IPSECKEY records is compared, and the laws of these comparisons, which an `impl`
-- cites.
use Rattle.std.proofs.Common.{◌≡◌, ℕ, Bool, false, true, List, ◌++◌, Option, Some, None, refl, ap, arith}
use Rattle.std.specs.Prelude.{◌==◌, ◌&&◌, if◌then◌else◌}
use Rattle.std.specs.List.{flat_map}
use Rattle.std.specs.declared.cmp.Ordering.{Ordering}
use Rattle.std.specs.declared.cmp.Ordering.TheVariants.{Equal}
use Rattle.std.specs.Ordering.{nat_cmp, on, eq_of_both, then_cmp, ordering_then, eq_by_cmp}
use Rattle.std.specs.Cmp.{tied_then, unsigned_tied}
use Rattle.std.specs.Cmp.Lexicographic.{pointwise, slice_cmp, bytes_decides, texts_ties}
use Rattle.std.specs.Hash as fed
use Rattle.std.proofs.lemmas.Bool.{and_parts}
use Rattle.std.proofs.lemmas.Bool.Decides.{nat_tests}
use Rattle.name_spec.specs.OwnedNames.{is_same_name, name_cmp, lowered_wire}
use Rattle.name_spec.specs.NameOrderLaws.{same_name_ties, fed-same}
use Rattle.record_spec.specs.Ipseckeys.{Gateway, NoGateway, Ipv4Gateway, Ipv6Gateway, NameGateway, gateway_type, Ipseckey}

-- ---- gateways

-- gateways of one type that are equal; names are, where they are the same but for ASCII case
abbrev pub is_same_gateway : Gateway → Gateway → Bool
is_same_gateway NoGateway NoGateway = true
is_same_gateway (Ipv4Gateway octets) (Ipv4Gateway octets') = pointwise ◌==◌ octets octets'
is_same_gateway (Ipv6Gateway octets) (Ipv6Gateway octets') = pointwise ◌==◌ octets octets'
is_same_gateway (NameGateway labels) (NameGateway labels') = is_same_name labels labels'
is_same_gateway g h = false

-- the order of gateways of one type; by types, where these differ
abbrev pub gateway_cmp : Gateway → Gateway → Ordering
gateway_cmp NoGateway NoGateway = Equal
gateway_cmp (Ipv4Gateway octets) (Ipv4Gateway octets') = slice_cmp nat_cmp octets octets'
gateway_cmp (Ipv6Gateway octets) (Ipv6Gateway octets') = slice_cmp nat_cmp octets octets'
gateway_cmp (NameGateway labels) (NameGateway labels') = name_cmp labels labels'
gateway_cmp g h = nat_cmp (gateway_type g) (gateway_type h)

-- the order of gateways of one type alone
abbrev pub gateway_partial_cmp : Gateway → Gateway → Option Ordering
gateway_partial_cmp g h = if gateway_type g == gateway_type h then Some (gateway_cmp g h) else None

-- what is fed to a hasher: the type, and what the gateway holds; of a name the octets in lower case
abbrev pub gateway_hash_input : Gateway → fed.HashWrites
gateway_hash_input NoGateway = fed.u8 0
gateway_hash_input (Ipv4Gateway octets) = fed.u8 1 ++ fed.slice fed.u8 octets
gateway_hash_input (Ipv6Gateway octets) = fed.u8 2 ++ fed.slice fed.u8 octets
gateway_hash_input (NameGateway labels) = fed.u8 3 ++ flat_map fed.u8 (lowered_wire labels)

-- ---- data

-- equal numbers, gateways and keys
abbrev pub is_same_ipseckey : Ipseckey → Ipseckey → Bool
is_same_ipseckey =
    eq_of_both (on (λ d. d.precedence) ◌==◌) (
    eq_of_both (on (λ d. d.algorithm) ◌==◌) (
    eq_of_both (on (λ d. d.gateway) is_same_gateway) (on (λ d. d.key) (pointwise ◌==◌))))

-- by the fields in the order of the wire: precedence, the gateway's type, algorithm, gateway, key
abbrev pub ipseckey_cmp : Ipseckey → Ipseckey → Ordering
ipseckey_cmp =
    then_cmp (on (λ d. d.precedence) nat_cmp) (
    then_cmp (on (λ d. gateway_type d.gateway) nat_cmp) (
    then_cmp (on (λ d. d.algorithm) nat_cmp) (
    then_cmp (on (λ d. d.gateway) gateway_cmp) (on (λ d. d.key) (slice_cmp nat_cmp)))))

-- what is fed to a hasher
abbrev pub ipseckey_hash_input : Ipseckey → fed.HashWrites
ipseckey_hash_input d =
    fed.u8 d.precedence
    ++ (fed.u8 d.algorithm ++ (gateway_hash_input d.gateway ++ fed.slice fed.u8 d.key))

-- ---- laws

-- the order finds equal what is the same gateway
pub same_gateway_ties : (g h : Gateway) → is_same_gateway g h ≡ eq_by_cmp gateway_cmp g h
same_gateway_ties NoGateway NoGateway = refl
same_gateway_ties NoGateway (Ipv4Gateway o) = refl
same_gateway_ties NoGateway (Ipv6Gateway o) = refl
same_gateway_ties NoGateway (NameGateway l) = refl
same_gateway_ties (Ipv4Gateway o) NoGateway = refl
same_gateway_ties (Ipv4Gateway o) (Ipv4Gateway o') = texts_ties o o'
same_gateway_ties (Ipv4Gateway o) (Ipv6Gateway o') = refl
same_gateway_ties (Ipv4Gateway o) (NameGateway l) = refl
same_gateway_ties (Ipv6Gateway o) NoGateway = refl
same_gateway_ties (Ipv6Gateway o) (Ipv4Gateway o') = refl
same_gateway_ties (Ipv6Gateway o) (Ipv6Gateway o') = texts_ties o o'
same_gateway_ties (Ipv6Gateway o) (NameGateway l) = refl
same_gateway_ties (NameGateway l) NoGateway = refl
same_gateway_ties (NameGateway l) (Ipv4Gateway o) = refl
same_gateway_ties (NameGateway l) (Ipv6Gateway o) = refl
same_gateway_ties (NameGateway l) (NameGateway l') = same_name_ties l l'

-- the same gateway feeds the same
pub same_gateway_hash_input : (g h : Gateway) → is_same_gateway g h ≡ true
    → gateway_hash_input g ≡ gateway_hash_input h
same_gateway_hash_input NoGateway NoGateway is = refl
same_gateway_hash_input NoGateway (Ipv4Gateway o) is = absurd cc
same_gateway_hash_input NoGateway (Ipv6Gateway o) is = absurd cc
same_gateway_hash_input NoGateway (NameGateway l) is = absurd cc
same_gateway_hash_input (Ipv4Gateway o) NoGateway is = absurd cc
same_gateway_hash_input (Ipv4Gateway o) (Ipv4Gateway o') is =
    ap (λ (os : List ℕ). fed.u8 1 ++ fed.slice fed.u8 os) ((bytes_decides o o').0 is)
same_gateway_hash_input (Ipv4Gateway o) (Ipv6Gateway o') is = absurd cc
same_gateway_hash_input (Ipv4Gateway o) (NameGateway l) is = absurd cc
same_gateway_hash_input (Ipv6Gateway o) NoGateway is = absurd cc
same_gateway_hash_input (Ipv6Gateway o) (Ipv4Gateway o') is = absurd cc
same_gateway_hash_input (Ipv6Gateway o) (Ipv6Gateway o') is =
    ap (λ (os : List ℕ). fed.u8 2 ++ fed.slice fed.u8 os) ((bytes_decides o o').0 is)
same_gateway_hash_input (Ipv6Gateway o) (NameGateway l) is = absurd cc
same_gateway_hash_input (NameGateway l) NoGateway is = absurd cc
same_gateway_hash_input (NameGateway l) (Ipv4Gateway o) is = absurd cc
same_gateway_hash_input (NameGateway l) (Ipv6Gateway o) is = absurd cc
same_gateway_hash_input (NameGateway l) (NameGateway l') is =
    ap (λ (w : fed.HashWrites). fed.u8 3 ++ w) (fed-same (flat_map fed.u8) l l' is)

-- the same gateways are of one type
pub same_type : (g h : Gateway) → is_same_gateway g h ≡ true
    → (gateway_type g == gateway_type h) ≡ true
same_type NoGateway NoGateway is = refl
same_type (Ipv4Gateway o) (Ipv4Gateway o') is = refl
same_type (Ipv6Gateway o) (Ipv6Gateway o') is = refl
same_type (NameGateway l) (NameGateway l') is = refl
same_type NoGateway (Ipv4Gateway o) is = absurd cc
same_type NoGateway (Ipv6Gateway o) is = absurd cc
same_type NoGateway (NameGateway l) is = absurd cc
same_type (Ipv4Gateway o) NoGateway is = absurd cc
same_type (Ipv4Gateway o) (Ipv6Gateway o') is = absurd cc
same_type (Ipv4Gateway o) (NameGateway l) is = absurd cc
same_type (Ipv6Gateway o) NoGateway is = absurd cc
same_type (Ipv6Gateway o) (Ipv4Gateway o') is = absurd cc
same_type (Ipv6Gateway o) (NameGateway l) is = absurd cc
same_type (NameGateway l) NoGateway is = absurd cc
same_type (NameGateway l) (Ipv4Gateway o) is = absurd cc
same_type (NameGateway l) (Ipv6Gateway o) is = absurd cc

-- a test that another implies may stand in front
implied : (type algorithm gateway key : Bool) → (gateway ≡ true → type ≡ true)
    → (algorithm && (gateway && key)) ≡ (type && (algorithm && (gateway && key)))
implied true algorithm gateway key h = refl
implied false true true key h = absurd (cc (h refl))
implied false true false key h = refl
implied false false gateway key h = refl

-- the order finds equal what is the same data
pub same_ipseckey_ties : (x y : Ipseckey) → is_same_ipseckey x y ≡ eq_by_cmp ipseckey_cmp x y
same_ipseckey_ties x y =
    let p = nat_cmp x.precedence y.precedence in
    let t = nat_cmp (gateway_type x.gateway) (gateway_type y.gateway) in
    let a = nat_cmp x.algorithm y.algorithm in
    let g = gateway_cmp x.gateway y.gateway in
    let k = slice_cmp nat_cmp x.key y.key in
    let type_test = gateway_type x.gateway == gateway_type y.gateway in
    cc (
      unsigned_tied x.precedence y.precedence,
      unsigned_tied (gateway_type x.gateway) (gateway_type y.gateway),
      unsigned_tied x.algorithm y.algorithm,
      same_gateway_ties x.gateway y.gateway,
      texts_ties x.key y.key,
      implied type_test (x.algorithm == y.algorithm) (is_same_gateway x.gateway y.gateway)
          (pointwise ◌==◌ x.key y.key) (same_type x.gateway y.gateway),
      tied_then g k,
      tied_then a (ordering_then g k),
      tied_then t (ordering_then a (ordering_then g k)),
      tied_then p (ordering_then t (ordering_then a (ordering_then g k))),
    )

same_number : (a b : ℕ) → (a == b) ≡ true → a ≡ b
same_number a b is = grind (arith, nat_tests)

-- the same data feeds the same
pub same_ipseckey_hash_input : (x y : Ipseckey) → is_same_ipseckey x y ≡ true
    → ipseckey_hash_input x ≡ ipseckey_hash_input y
same_ipseckey_hash_input x y is =
    let first = and_parts (x.precedence == y.precedence) _ is in
    let second = and_parts (x.algorithm == y.algorithm) _ first.1 in
    let third = and_parts (is_same_gateway x.gateway y.gateway)
    (pointwise ◌==◌ x.key y.key) second.1 in
    cc (
      same_number x.precedence y.precedence first.0,
      same_number x.algorithm y.algorithm second.0,
      same_gateway_hash_input x.gateway y.gateway third.0,
      (bytes_decides x.key y.key).0 third.1,
    )
