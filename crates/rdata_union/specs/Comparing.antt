-- How data of records is compared, and the laws of these comparisons.
use Rattle.std.proofs.Common.{◌≡◌, ℕ, Bool, true, false, List, ◌++◌, Option, Some, None, refl, sym, ap, subst, arith}
use Rattle.std.specs.Prelude.{◌==◌, ◌&&◌, if◌then◌else◌}
use Rattle.std.specs.Option.{option_cmp}
use Rattle.std.specs.declared.cmp.Ordering.{Ordering}
use Rattle.std.specs.declared.cmp.Ordering.TheVariants.{Less, Equal, Greater}
use Rattle.std.specs.Ordering.{nat_cmp, on, eq_of_both, then_cmp, ordering_then, eq_by_cmp}
use Rattle.std.specs.Cmp.{IsEquivalence, IsTotalOrder, tied_then, unsigned_tied, then_total, on_total, nat_cmp_total, eq_by_cmp_equiv}
use Rattle.std.specs.Cmp.Lexicographic.{pointwise, slice_cmp, lists_total, options_total, bytes_decides, texts_ties}
use Rattle.std.specs.Hash as fed
use Rattle.std.proofs.lemmas.Bool.{and_parts}
use Rattle.std.proofs.lemmas.Bool.Decides.{nat_tests}
use Rattle.name_spec.specs.OwnedNames.{from_last, name_cmp}
use Rattle.svcb_spec.specs.Params.{wire}
use Rattle.svcb_spec.specs.Records.{Record}
use Rattle.svcb_rdata.specs.Comparing as svcb
use Rattle.record_spec.specs.Rows.{Row, Data, sshfp, tlsa, cds, cdnskey, openpgpkey, zonemd}
use Rattle.record_spec.specs.Comparing as fields
use Rattle.record_spec.specs.Ipseckeys as ipseckeys
use Rattle.record_spec.specs.IpseckeyComparing.{is_same_ipseckey, ipseckey_cmp, ipseckey_hash_input, same_ipseckey_ties, same_ipseckey_hash_input}
use Rattle.record_spec.specs.IpseckeyOrders.{ipseckey_total}
use Rattle.record_spec.specs.RecordData.{RecordData, A, Aaaa, Sshfp, Ipseckey, Tlsa, Cds, Cdnskey, Openpgpkey, Zonemd, Svcb, Https, Unknown, rtype_of}

-- ---- what data holds, whatever its type

pub data Content : Type 0 where
  Octets : (octets : List ℕ) → Content
  Fields : (found : Data) → Content
  Gateway : (found : ipseckeys.Ipseckey) → Content
  Service : (found : Record) → Content

abbrev pub content_of : RecordData → Content
content_of (A address) = Octets address
content_of (Aaaa address) = Octets address
content_of (Sshfp found) = Fields found
content_of (Ipseckey found) = Gateway found
content_of (Tlsa found) = Fields found
content_of (Cds found) = Fields found
content_of (Cdnskey found) = Fields found
content_of (Openpgpkey found) = Fields found
content_of (Zonemd found) = Fields found
content_of (Svcb found) = Service found
content_of (Https found) = Service found
content_of (Unknown found) = Octets found.octets

-- 1 for data that is held as octets under any type number, 0 for all other
abbrev pub unknown_rank : RecordData → ℕ
unknown_rank (Unknown found) = 1
unknown_rank found = 0

-- ---- comparisons

abbrev pub is_same_content : Content → Content → Bool
is_same_content (Octets octets) (Octets octets') = pointwise ◌==◌ octets octets'
is_same_content (Fields found) (Fields found') = fields.is_same_fields found found'
is_same_content (Gateway found) (Gateway found') = is_same_ipseckey found found'
is_same_content (Service found) (Service found') = svcb.is_same_svcb found found'
is_same_content x y = false

abbrev content_rank : Content → ℕ
content_rank (Octets octets) = 0
content_rank (Fields found) = 1
content_rank (Gateway found) = 2
content_rank (Service found) = 3

-- the order of data of one type, and else any order
abbrev pub content_cmp : Content → Content → Ordering
content_cmp (Octets octets) (Octets octets') = slice_cmp nat_cmp octets octets'
content_cmp (Fields found) (Fields found') = fields.fields_cmp found found'
content_cmp (Gateway found) (Gateway found') = ipseckey_cmp found found'
content_cmp (Service found) (Service found') = svcb.svcb_cmp found found'
content_cmp x y = nat_cmp (content_rank x) (content_rank y)

-- Equal data is of one type number, both are held by their fields or both as octets, and what they
-- hold is equal.
abbrev pub is_same_union : RecordData → RecordData → Bool
is_same_union =
    eq_of_both (on unknown_rank ◌==◌)
    (eq_of_both (on rtype_of ◌==◌) (on content_of is_same_content))

-- by type number, then data by its fields before octets, then what they hold
abbrev pub union_cmp : RecordData → RecordData → Ordering
union_cmp = then_cmp (on rtype_of nat_cmp)
    (then_cmp (on unknown_rank nat_cmp) (on content_of content_cmp))

-- the type with fixed fields under a type number
abbrev row_of : ℕ → Row
row_of rtype =
    if rtype == 44 then sshfp
    else if rtype == 52 then tlsa
    else if rtype == 59 then cds
    else if rtype == 60 then cdnskey
    else if rtype == 61 then openpgpkey
    else zonemd

-- what is fed to a hasher of what data of a type number holds
abbrev content_hash_input : ℕ → Content → fed.HashWrites
content_hash_input rtype (Octets octets) = fed.slice fed.u8 octets
content_hash_input rtype (Fields found) = fields.fields_hash_input (row_of rtype) found
content_hash_input rtype (Gateway found) = ipseckey_hash_input found
content_hash_input rtype (Service found) = svcb.svcb_hash_input found

-- what is fed to a hasher: the type number, and what data holds
abbrev pub union_hash_input : RecordData → fed.HashWrites
union_hash_input found =
    fed.u16 (rtype_of found) ++ content_hash_input (rtype_of found) (content_of found)

-- ---- laws of what data holds

same_content_ties : (x y : Content) → is_same_content x y ≡ eq_by_cmp content_cmp x y
same_content_ties (Octets x) (Octets y) = texts_ties x y
same_content_ties (Octets x) (Fields y) = refl
same_content_ties (Octets x) (Gateway y) = refl
same_content_ties (Octets x) (Service y) = refl
same_content_ties (Fields x) (Octets y) = refl
same_content_ties (Fields x) (Fields y) = fields.same_fields_ties x y
same_content_ties (Fields x) (Gateway y) = refl
same_content_ties (Fields x) (Service y) = refl
same_content_ties (Gateway x) (Octets y) = refl
same_content_ties (Gateway x) (Fields y) = refl
same_content_ties (Gateway x) (Gateway y) = same_ipseckey_ties x y
same_content_ties (Gateway x) (Service y) = refl
same_content_ties (Service x) (Octets y) = refl
same_content_ties (Service x) (Fields y) = refl
same_content_ties (Service x) (Gateway y) = refl
same_content_ties (Service x) (Service y) = svcb.same_svcb_ties x y

same_content_hash_input : (rtype : ℕ) (x y : Content) → is_same_content x y ≡ true
    → content_hash_input rtype x ≡ content_hash_input rtype y
same_content_hash_input rtype (Octets x) (Octets y) is =
    ap (fed.slice fed.u8) ((bytes_decides x y).0 is)
same_content_hash_input rtype (Octets x) (Fields y) is = absurd cc
same_content_hash_input rtype (Octets x) (Gateway y) is = absurd cc
same_content_hash_input rtype (Octets x) (Service y) is = absurd cc
same_content_hash_input rtype (Fields x) (Octets y) is = absurd cc
same_content_hash_input rtype (Fields x) (Fields y) is =
    fields.same_fields_hash_input (row_of rtype) x y is
same_content_hash_input rtype (Fields x) (Gateway y) is = absurd cc
same_content_hash_input rtype (Fields x) (Service y) is = absurd cc
same_content_hash_input rtype (Gateway x) (Octets y) is = absurd cc
same_content_hash_input rtype (Gateway x) (Fields y) is = absurd cc
same_content_hash_input rtype (Gateway x) (Gateway y) is = same_ipseckey_hash_input x y is
same_content_hash_input rtype (Gateway x) (Service y) is = absurd cc
same_content_hash_input rtype (Service x) (Octets y) is = absurd cc
same_content_hash_input rtype (Service x) (Fields y) is = absurd cc
same_content_hash_input rtype (Service x) (Gateway y) is = absurd cc
same_content_hash_input rtype (Service x) (Service y) is = svcb.same_svcb_hash_input x y is

-- ---- the order of what data holds, kind by kind

abbrev octets_in : Content → Option (List ℕ)
octets_in (Octets octets) = Some octets
octets_in x = None

abbrev fields_in : Content → Option Data
fields_in (Fields found) = Some found
fields_in x = None

abbrev gateway_in : Content → Option ipseckeys.Ipseckey
gateway_in (Gateway found) = Some found
gateway_in x = None

abbrev service_in : Content → Option Record
service_in (Service found) = Some found
service_in x = None

abbrev by_kinds : Content → Content → Ordering
by_kinds =
    then_cmp (on content_rank nat_cmp) (
    then_cmp (on octets_in (option_cmp (slice_cmp nat_cmp))) (
    then_cmp (on fields_in (option_cmp fields.fields_cmp)) (
    then_cmp (on gateway_in (option_cmp ipseckey_cmp)) (on service_in (option_cmp svcb.svcb_cmp)))))

then_equal : (order : Ordering) → ordering_then order Equal ≡ order
then_equal Less = refl
then_equal Equal = refl
then_equal Greater = refl

same_order : (x y : Content) → by_kinds x y ≡ content_cmp x y
same_order (Octets x) (Octets y) = then_equal (slice_cmp nat_cmp x y)
same_order (Octets x) (Fields y) = refl
same_order (Octets x) (Gateway y) = refl
same_order (Octets x) (Service y) = refl
same_order (Fields x) (Octets y) = refl
same_order (Fields x) (Fields y) = then_equal (fields.fields_cmp x y)
same_order (Fields x) (Gateway y) = refl
same_order (Fields x) (Service y) = refl
same_order (Gateway x) (Octets y) = refl
same_order (Gateway x) (Fields y) = refl
same_order (Gateway x) (Gateway y) = then_equal (ipseckey_cmp x y)
same_order (Gateway x) (Service y) = refl
same_order (Service x) (Octets y) = refl
same_order (Service x) (Fields y) = refl
same_order (Service x) (Gateway y) = refl
same_order (Service x) (Service y) = refl

octets_total : IsTotalOrder (slice_cmp nat_cmp)
octets_total = lists_total nat_cmp_total

fields_total : IsTotalOrder fields.fields_cmp
fields_total =
    then_total (on_total (λ (d : Data). d.numbers) octets_total)
    (on_total (λ (d : Data). d.last) octets_total)

name_total : IsTotalOrder name_cmp
name_total = on_total from_last (lists_total octets_total)

service_total : IsTotalOrder svcb.svcb_cmp
service_total =
    then_total (on_total (λ (r : Record). r.priority) nat_cmp_total)
    (then_total (on_total (λ (r : Record). r.labels) name_total)
    (on_total (λ (r : Record). wire r.pairs) octets_total))

kinds_total : IsTotalOrder by_kinds
kinds_total =
    then_total (on_total content_rank nat_cmp_total)
    (then_total (on_total octets_in (options_total octets_total))
    (then_total (on_total fields_in (options_total fields_total))
    (then_total (on_total gateway_in (options_total ipseckey_total))
    (on_total service_in (options_total service_total)))))

content_total : IsTotalOrder content_cmp
content_total = subst IsTotalOrder (λ i x y. same_order x y i) kinds_total

-- ---- laws of data

pub union_total : IsTotalOrder union_cmp
union_total = then_total (on_total rtype_of nat_cmp_total)
    (then_total (on_total unknown_rank nat_cmp_total) (on_total content_of content_total))

-- the order finds equal what is the same data
pub same_union_ties : (x y : RecordData) → is_same_union x y ≡ eq_by_cmp union_cmp x y
same_union_ties x y =
    let t = nat_cmp (rtype_of x) (rtype_of y) in
    let u = nat_cmp (unknown_rank x) (unknown_rank y) in
    let h = content_cmp (content_of x) (content_of y) in
    cc (
      unsigned_tied (rtype_of x) (rtype_of y),
      unsigned_tied (unknown_rank x) (unknown_rank y),
      same_content_ties (content_of x) (content_of y),
      swapped (unknown_rank x == unknown_rank y) (rtype_of x == rtype_of y)
          (is_same_content (content_of x) (content_of y)),
      tied_then u h,
      tied_then t (ordering_then u h),
    )
  where
    swapped : (p q r : Bool) → (p && (q && r)) ≡ (q && (p && r))
    swapped true true r = refl
    swapped true false r = refl
    swapped false true r = refl
    swapped false false r = refl

pub same_data_equivalence : IsEquivalence is_same_union
same_data_equivalence =
    subst IsEquivalence (λ i x y. sym (same_union_ties x y) i) (eq_by_cmp_equiv union_total)

same_number : (a b : ℕ) → (a == b) ≡ true → a ≡ b
same_number a b is = grind (arith, nat_tests)

-- the same data feeds the same
pub same_union_hash_input : (x y : RecordData) → is_same_union x y ≡ true
    → union_hash_input x ≡ union_hash_input y
same_union_hash_input x y is =
    let first = and_parts (unknown_rank x == unknown_rank y) _ is in
    let second = and_parts (rtype_of x == rtype_of y)
    (is_same_content (content_of x) (content_of y)) first.1 in
    cc (
      same_number (rtype_of x) (rtype_of y) second.0,
      same_content_hash_input (rtype_of x) (content_of x)
          (content_of y) second.1,
    )
