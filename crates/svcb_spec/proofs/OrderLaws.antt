-- The octet order of record data, part by part. Offered to the crates above: `data_orders`, for
-- functions that compare record data.
use Rattle.std.proofs.Common.{◌≡◌, ℕ, ◌/◌, ◌%◌, List, ◌++◌, refl, sym, ap, ◌∙◌, arith, Equal, inl, inr}
use Rattle.std.proofs.lemmas.Bool.{cases_lt, cases_eq}
use Rattle.std.specs.Ordering.{nat_cmp, ordering_then}
use Rattle.std.specs.Cmp.Lexicographic.{slice_cmp}
use Rattle.name_spec.specs.Octets.{be2}
use Rattle.name_spec.specs.Names.{name_wire, AreLabels}
use Rattle.name_spec.proofs.OctetOrders.{less, greater, equal, then_equal, slice_cmp-append, name_wire-order}
use Rattle.svcb_spec.specs.Params.{Pairs, wire}
use Rattle.svcb_spec.specs.Records.{rdata}

-- the order of numbers is that of their octets
pub be2-order : (p q : ℕ) → slice_cmp nat_cmp (be2 p) (be2 q) ≡ nat_cmp p q
be2-order p q = elim (cases_lt (p / 256) (q / 256)) [
  | inl high ↦ ap (λ o. ordering_then o (ordering_then (nat_cmp (p % 256) (q % 256)) Equal))
      (less (p / 256) (q / 256) high) ∙ sym (less p q (omega arith))
  | inr not_high ↦ elim (cases_eq (p / 256) (q / 256)) [
    | inl same ↦
        ap (λ o. ordering_then o (ordering_then (nat_cmp (p % 256) (q % 256)) Equal))
        (equal (p / 256) (q / 256) same) ∙ then_equal (nat_cmp (p % 256) (q % 256))
        ∙ by_low p q same
    | inr apart ↦ ap (λ o. ordering_then o (ordering_then (nat_cmp (p % 256) (q % 256)) Equal))
        (greater (p / 256) (q / 256) (omega arith)) ∙ sym (greater p q (omega arith))
  ]
]
  where
    by_low : (p q : ℕ) → p / 256 ≡ q / 256 → nat_cmp (p % 256) (q % 256) ≡ nat_cmp p q
    by_low p q same = elim (cases_lt (p % 256) (q % 256)) [
      | inl low ↦ less (p % 256) (q % 256) low ∙ sym (less p q (omega arith))
      | inr not_low ↦ elim (cases_eq (p % 256) (q % 256)) [
        | inl alike ↦ equal (p % 256) (q % 256) alike ∙ sym (equal p q (omega arith))
        | inr apart ↦ greater (p % 256) (q % 256) (omega arith) ∙ sym (greater p q (omega arith))
      ]
    ]

-- record data is ordered by its priority, then the octets of its target, then those of its
-- parameters
pub rdata-order : (priority priority' : ℕ) (labels labels' : List (List ℕ)) (pairs pairs' : Pairs)
    → AreLabels 0 labels → AreLabels 0 labels'
    → slice_cmp nat_cmp (rdata priority labels pairs) (rdata priority' labels' pairs')
    ≡ ordering_then (nat_cmp priority priority')
    (ordering_then (slice_cmp nat_cmp (name_wire labels) (name_wire labels'))
    (slice_cmp nat_cmp (wire pairs) (wire pairs')))
rdata-order priority priority' labels labels' pairs pairs' are are' =
    slice_cmp-append (be2 priority) (be2 priority') (name_wire labels ++ wire pairs)
    (name_wire labels' ++ wire pairs') refl
    ∙ ap (λ o. ordering_then o
    (slice_cmp nat_cmp (name_wire labels ++ wire pairs) (name_wire labels' ++ wire pairs')))
    (be2-order priority priority')
    ∙ ap (ordering_then (nat_cmp priority priority'))
    (name_wire-order labels labels' 0 0 (wire pairs) (wire pairs') are are')

pub ruleset data_orders = (rdata-order)
