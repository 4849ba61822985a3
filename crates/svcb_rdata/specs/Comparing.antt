-- How record data is compared, and the laws of these comparisons.
use Rattle.std.proofs.Common.{◌≡◌, ℕ, Bool, true, ◌++◌, arith}
use Rattle.std.specs.Prelude.{◌==◌}
use Rattle.std.specs.List.{flat_map}
use Rattle.std.specs.declared.cmp.Ordering.{Ordering}
use Rattle.std.specs.Ordering.{nat_cmp, on, eq_of_both, then_cmp, ordering_then, eq_by_cmp}
use Rattle.std.specs.Cmp.{tied_then, unsigned_tied}
use Rattle.std.specs.Cmp.Lexicographic.{pointwise, slice_cmp, bytes_decides, texts_ties}
use Rattle.std.specs.Hash as fed
use Rattle.std.proofs.lemmas.Bool.{and_parts}
use Rattle.std.proofs.lemmas.Bool.Decides.{nat_tests}
use Rattle.name_spec.specs.OwnedNames.{is_same_name, name_cmp, lowered_wire}
use Rattle.name_spec.specs.NameOrderLaws.{same_name_ties, fed-same}
use Rattle.svcb_spec.specs.Params.{wire}
use Rattle.svcb_spec.specs.Records.{Record}

-- equal priorities, targets that are the same but for ASCII case, and parameters with equal octets
abbrev pub is_same_svcb : Record → Record → Bool
is_same_svcb =
    eq_of_both (on (λ r. r.priority) ◌==◌)
    (eq_of_both (on (λ r. r.labels) is_same_name) (on (λ r. wire r.pairs) (pointwise ◌==◌)))

-- by priority, then the target in the order of names, then the parameters' octets
abbrev pub svcb_cmp : Record → Record → Ordering
svcb_cmp = then_cmp (on (λ r. r.priority) nat_cmp)
    (then_cmp (on (λ r. r.labels) name_cmp) (on (λ r. wire r.pairs) (slice_cmp nat_cmp)))

-- what is fed to a hasher: the priority, the target's octets in lower case, and the parameters'
-- octets
abbrev pub svcb_hash_input : Record → fed.HashWrites
svcb_hash_input r =
    fed.u16 r.priority
    ++ (flat_map fed.u8 (lowered_wire r.labels) ++ fed.slice fed.u8 (wire r.pairs))

-- ---- laws

same_number : (a b : ℕ) → (a == b) ≡ true → a ≡ b
same_number a b is = grind (arith, nat_tests)

-- the order finds equal what is the same data
pub same_svcb_ties : (x y : Record) → is_same_svcb x y ≡ eq_by_cmp svcb_cmp x y
same_svcb_ties x y =
    let p = nat_cmp x.priority y.priority in
    let t = name_cmp x.labels y.labels in
    let o = slice_cmp nat_cmp (wire x.pairs) (wire y.pairs) in
    cc (
      unsigned_tied x.priority y.priority,
      same_name_ties x.labels y.labels,
      texts_ties
          (wire x.pairs) (wire y.pairs),
      tied_then t o,
      tied_then p (ordering_then t o),
    )

-- the same data feeds the same
pub same_svcb_hash_input : (x y : Record) → is_same_svcb x y ≡ true
    → svcb_hash_input x ≡ svcb_hash_input y
same_svcb_hash_input x y is =
    let first = and_parts (x.priority == y.priority) _ is in
    let second = and_parts (is_same_name x.labels y.labels)
    (pointwise ◌==◌ (wire x.pairs) (wire y.pairs)) first.1 in
    cc (
      same_number x.priority y.priority first.0,
      fed-same (flat_map fed.u8) x.labels y.labels
          second.0,
      (bytes_decides (wire x.pairs) (wire y.pairs)).0 second.1,
    )
