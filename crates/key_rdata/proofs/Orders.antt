-- The octet order of IPSECKEY data, field by field.
use Rattle.std.proofs.Common.{◌≡◌, ℕ, List, ◌∷◌, ◌++◌, refl, sym, ap, ◌∙◌, Ordering}
use Rattle.std.specs.Ordering.{nat_cmp, ordering_then}
use Rattle.std.specs.Cmp.Lexicographic.{slice_cmp}
use Rattle.record_spec.specs.Ipseckeys.{Gateway, NoGateway, Ipv4Gateway, Ipv6Gateway, NameGateway, gateway_type, gateway_wire, Ipseckey, ipseckey_wire, IsGateway}
use Rattle.name_spec.proofs.OctetOrders.{then_assoc, slice_cmp-append, name_wire-order}
use Rattle.key_rdata.specs.OctetsComparing.{octets_cmp}

-- Behind their types, gateways decide before the key. The algorithm stands between the two.
behind_type : (g h : Gateway) (a b : ℕ) (xs ys : List ℕ) → IsGateway g → IsGateway h
    → slice_cmp nat_cmp (gateway_type g ∷ a ∷ gateway_wire g ++ xs)
    (gateway_type h ∷ b ∷ gateway_wire h ++ ys)
    ≡ ordering_then (nat_cmp (gateway_type g) (gateway_type h))
    (ordering_then (nat_cmp a b) (ordering_then (octets_cmp g h) (slice_cmp nat_cmp xs ys)))
behind_type NoGateway NoGateway a b xs ys is is' = refl
behind_type NoGateway (Ipv4Gateway o) a b xs ys is is' = refl
behind_type NoGateway (Ipv6Gateway o) a b xs ys is is' = refl
behind_type NoGateway (NameGateway l) a b xs ys is is' = refl
behind_type (Ipv4Gateway o) NoGateway a b xs ys is is' = refl
behind_type (Ipv4Gateway o) (Ipv4Gateway o') a b xs ys is is' =
    ap (ordering_then (nat_cmp a b)) (slice_cmp-append o o' xs ys (is.0 ∙ sym is'.0))
behind_type (Ipv4Gateway o) (Ipv6Gateway o') a b xs ys is is' = refl
behind_type (Ipv4Gateway o) (NameGateway l) a b xs ys is is' = refl
behind_type (Ipv6Gateway o) NoGateway a b xs ys is is' = refl
behind_type (Ipv6Gateway o) (Ipv4Gateway o') a b xs ys is is' = refl
behind_type (Ipv6Gateway o) (Ipv6Gateway o') a b xs ys is is' =
    ap (ordering_then (nat_cmp a b)) (slice_cmp-append o o' xs ys (is.0 ∙ sym is'.0))
behind_type (Ipv6Gateway o) (NameGateway l) a b xs ys is is' = refl
behind_type (NameGateway l) NoGateway a b xs ys is is' = refl
behind_type (NameGateway l) (Ipv4Gateway o) a b xs ys is is' = refl
behind_type (NameGateway l) (Ipv6Gateway o) a b xs ys is is' = refl
behind_type (NameGateway l) (NameGateway l') a b xs ys is is' =
    ap (ordering_then (nat_cmp a b)) (name_wire-order l l' 0 0 xs ys is.0 is'.0)

-- data is ordered by its precedence, the gateway's type, its algorithm, the gateway's octets and
-- those of the key
pub data_order : (x y : Ipseckey) → IsGateway x.gateway → IsGateway y.gateway
    → slice_cmp nat_cmp (ipseckey_wire x) (ipseckey_wire y)
    ≡ ordering_then (nat_cmp x.precedence y.precedence)
    (ordering_then (nat_cmp (gateway_type x.gateway) (gateway_type y.gateway))
    (ordering_then (nat_cmp x.algorithm y.algorithm)
    (ordering_then (octets_cmp x.gateway y.gateway) (slice_cmp nat_cmp x.key y.key))))
data_order x y is is' =
    ap (ordering_then (nat_cmp x.precedence y.precedence))
    (behind_type x.gateway y.gateway x.algorithm y.algorithm x.key y.key is is')

-- the same as the code finds it
pub data_order-steps : (x y : Ipseckey) (p t a g k pt pta ptag all : Ordering)
    → p ≡ nat_cmp x.precedence y.precedence
    → t ≡ nat_cmp (gateway_type x.gateway) (gateway_type y.gateway)
    → a ≡ nat_cmp x.algorithm y.algorithm
    → g ≡ octets_cmp x.gateway y.gateway → k ≡ slice_cmp nat_cmp x.key y.key
    → pt ≡ ordering_then p t → pta ≡ ordering_then pt a → ptag ≡ ordering_then pta g
    → all ≡ ordering_then ptag k
    → IsGateway x.gateway → IsGateway y.gateway
    → all ≡ slice_cmp nat_cmp (ipseckey_wire x) (ipseckey_wire y)
data_order-steps x y p t a g k pt pta ptag all p_is t_is a_is g_is k_is pt_is pta_is ptag_is all_is
    is is' =
    let left : all ≡ ordering_then (ordering_then (ordering_then (ordering_then p t) a) g) k = cc in
    left
    ∙ then_assoc (ordering_then (ordering_then p t) a) g k
    ∙ then_assoc (ordering_then p t) a (ordering_then g k)
    ∙ then_assoc p t (ordering_then a (ordering_then g k))
    ∙ fields p_is t_is a_is g_is k_is
    ∙ sym (data_order x y is is')
  where
    fields : {p p' t t' a a' g g' k k' : Ordering} → p ≡ p' → t ≡ t' → a ≡ a' → g ≡ g' → k ≡ k'
        → ordering_then p (ordering_then t (ordering_then a (ordering_then g k)))
        ≡ ordering_then p' (ordering_then t' (ordering_then a' (ordering_then g' k')))
    fields p_is t_is a_is g_is k_is =
        λ i. ordering_then (p_is i)
        (ordering_then (t_is i) (ordering_then (a_is i) (ordering_then (g_is i) (k_is i))))
