-- The laws of equality and order that an `impl` for gateways and for the data of IPSECKEY records
-- owes.
use Rattle.std.proofs.Common.{◌≡◌, ℕ, Bool, true, false, cond, List, [], Option, Some, None, refl, sym, ap, ap₂, ◌∙◌, subst, arith}
use Rattle.std.specs.Prelude.{◌==◌, option_map}
use Rattle.std.specs.declared.cmp.Ordering.{Ordering}
use Rattle.std.specs.declared.cmp.Ordering.TheVariants.{Less, Equal, Greater}
use Rattle.std.specs.Ordering.{nat_cmp, on, then_cmp, ordering_then, ordering_reverse, is_eq}
use Rattle.std.specs.Cmp.{IsEquivalence, IsPartialOrder, IsTotalOrder, then_total, on_total, nat_cmp_total, eq_by_cmp_equiv, Equal-is}
use Rattle.std.specs.Cmp.Lexicographic.{slice_cmp, lists_total}
use Rattle.std.proofs.lemmas.Bool.Decides.{nat_tests}
use Rattle.name_spec.specs.OwnedNames.{from_last, name_cmp}
use Rattle.record_spec.specs.Ipseckeys.{Gateway, NoGateway, Ipv4Gateway, Ipv6Gateway, NameGateway, gateway_type, Ipseckey}
use Rattle.record_spec.specs.IpseckeyComparing.{is_same_gateway, gateway_cmp, gateway_partial_cmp, is_same_ipseckey, ipseckey_cmp, same_gateway_ties, same_type, same_ipseckey_ties}

-- ---- the order of gateways, field by field

-- the octets of an address, and the labels of a name
abbrev address : Gateway → List ℕ
address NoGateway = []
address (Ipv4Gateway octets) = octets
address (Ipv6Gateway octets) = octets
address (NameGateway labels) = []

abbrev gateway_labels : Gateway → List (List ℕ)
gateway_labels NoGateway = []
gateway_labels (Ipv4Gateway octets) = []
gateway_labels (Ipv6Gateway octets) = []
gateway_labels (NameGateway labels) = labels

abbrev by_fields : Gateway → Gateway → Ordering
by_fields = then_cmp (on gateway_type nat_cmp)
    (then_cmp (on address (slice_cmp nat_cmp)) (on gateway_labels name_cmp))

then_equal : (order : Ordering) → order ≡ ordering_then order Equal
then_equal Less = refl
then_equal Equal = refl
then_equal Greater = refl

same_order : (g h : Gateway) → by_fields g h ≡ gateway_cmp g h
same_order NoGateway NoGateway = refl
same_order NoGateway (Ipv4Gateway o) = refl
same_order NoGateway (Ipv6Gateway o) = refl
same_order NoGateway (NameGateway l) = refl
same_order (Ipv4Gateway o) NoGateway = refl
same_order (Ipv4Gateway o) (Ipv4Gateway o') = sym (then_equal (slice_cmp nat_cmp o o'))
same_order (Ipv4Gateway o) (Ipv6Gateway o') = refl
same_order (Ipv4Gateway o) (NameGateway l) = refl
same_order (Ipv6Gateway o) NoGateway = refl
same_order (Ipv6Gateway o) (Ipv4Gateway o') = refl
same_order (Ipv6Gateway o) (Ipv6Gateway o') = sym (then_equal (slice_cmp nat_cmp o o'))
same_order (Ipv6Gateway o) (NameGateway l) = refl
same_order (NameGateway l) NoGateway = refl
same_order (NameGateway l) (Ipv4Gateway o) = refl
same_order (NameGateway l) (Ipv6Gateway o) = refl
same_order (NameGateway l) (NameGateway l') = refl

name_total : IsTotalOrder name_cmp
name_total = on_total from_last (lists_total (lists_total nat_cmp_total))

fields_total : IsTotalOrder by_fields
fields_total =
    then_total (on_total gateway_type nat_cmp_total)
    (then_total (on_total address (lists_total nat_cmp_total))
    (on_total gateway_labels name_total))

-- ---- gateways

pub gateway_total : IsTotalOrder gateway_cmp
gateway_total = subst IsTotalOrder (λ i g h. same_order g h i) fields_total

pub gateway_equivalence : IsEquivalence is_same_gateway
gateway_equivalence =
    subst IsEquivalence (λ i g h. sym (same_gateway_ties g h) i) (eq_by_cmp_equiv gateway_total)

same_number : (a b : ℕ) → (a == b) ≡ true → a ≡ b
same_number a b is = grind (arith, nat_tests)

equal_number : (a b : ℕ) → a ≡ b → (a == b) ≡ true
equal_number a b is = grind (arith, nat_tests)

turned : (a b : ℕ) → (a == b) ≡ (b == a)
turned a b = grind (arith, nat_tests)

-- an order where a test holds
abbrev where_true : Bool → Ordering → Option Ordering
where_true test order = cond test (Some order) None

turned_back : (test : Bool) (order order' : Ordering) → order ≡ ordering_reverse order'
    → where_true test order ≡ option_map ordering_reverse (where_true test order')
turned_back true order order' is = ap Some is
turned_back false order order' is = refl

was_true : (test : Bool) (order order' : Ordering) → where_true test order ≡ Some order'
    → (test ≡ true) × (order ≡ order')
was_true true order order' is = (refl, cc)
was_true false order order' is = absurd cc

is_true : (test : Bool) (order order' : Ordering) → test ≡ true → order ≡ order'
    → where_true test order ≡ Some order'
is_true test order order' holds is = ap₂ where_true holds is

pub gateway_partial_order : IsPartialOrder is_same_gateway gateway_partial_cmp
gateway_partial_order = record {
  antisymm = λ g h.
      turned_back (gateway_type g == gateway_type h) (gateway_cmp g h) (gateway_cmp h g)
      (gateway_total.antisymm g h)
      ∙ ap (λ (test : Bool). option_map ordering_reverse (where_true test (gateway_cmp h g)))
      (turned (gateway_type g) (gateway_type h));
  trans = λ f g h first second.
      let one = was_true (gateway_type f == gateway_type g) (gateway_cmp f g) Less first in
      let two = was_true (gateway_type g == gateway_type h) (gateway_cmp g h) Less second in
      let same = same_number (gateway_type f) (gateway_type g) one.0
      ∙ same_number (gateway_type g) (gateway_type h) two.0 in
      is_true (gateway_type f == gateway_type h) (gateway_cmp f h) Less
      (equal_number (gateway_type f) (gateway_type h) same)
      (gateway_total.trans f g h one.1 two.1);
  matches_eq = λ g h. (
    λ is. is_true (gateway_type g == gateway_type h) (gateway_cmp g h) Equal (same_type g h is)
        ((Equal-is (gateway_cmp g h)).0 (sym (same_gateway_ties g h) ∙ is)),
    λ is. same_gateway_ties g h
        ∙ ap is_eq (was_true (gateway_type g == gateway_type h) (gateway_cmp g h) Equal is).1,
  );
  congr = λ f g h is.
      let type = same_number (gateway_type f) (gateway_type g) (same_type f g is) in
      let tied = (Equal-is (gateway_cmp f g)).0 (sym (same_gateway_ties f g) ∙ is) in
      ap₂ (λ (n : ℕ) (order : Ordering). where_true (n == gateway_type h) order) type
      (gateway_total.congr f g h tied);
}

-- ---- data

pub ipseckey_total : IsTotalOrder ipseckey_cmp
ipseckey_total =
    then_total (on_total (λ (d : Ipseckey). d.precedence) nat_cmp_total)
    (then_total (on_total (λ (d : Ipseckey). gateway_type d.gateway) nat_cmp_total)
    (then_total (on_total (λ (d : Ipseckey). d.algorithm) nat_cmp_total)
    (then_total (on_total (λ (d : Ipseckey). d.gateway) gateway_total)
    (on_total (λ (d : Ipseckey). d.key) (lists_total nat_cmp_total)))))

pub ipseckey_equivalence : IsEquivalence is_same_ipseckey
ipseckey_equivalence =
    subst IsEquivalence (λ i x y. sym (same_ipseckey_ties x y) i) (eq_by_cmp_equiv ipseckey_total)
